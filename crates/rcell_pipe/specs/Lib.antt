-- What `rcell-pipe` does.
pub mod Exchanges
