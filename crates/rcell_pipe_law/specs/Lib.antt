-- Statement of the law of requests, and two worked requests.
pub mod SentMaps
pub mod SentBytes
pub mod SentQuestions
pub mod RequestLaw
pub mod SentExamples
