use Rattle.std.proofs.Common.{◌≡◌, ◌+◌, zero, length, vec_len}
use Rattle.cell_calc_grammar.specs.Tokens.{token_bytes_of_text, tokens_of_text_pieces, token_list_of_text}
use Rattle.cell_calc_grammar.proofs.Pieces.{prefixed}
use Rattle.cell_calc_grammar.proofs.tokens.tokens.Given as goal

abbrev pub invariant-pieces : goal.invariant-pieces
invariant-pieces l = (prefixed l.found.items (tokens_of_text_pieces (vec_len l.found) (token_bytes_of_text zero l.column l.rest)) ≡ token_list_of_text l.text)
    × (l.column + length l.rest ≡ 1 + length l.text)

abbrev pub decreases-pieces : goal.decreases-pieces
decreases-pieces l = length l.rest
