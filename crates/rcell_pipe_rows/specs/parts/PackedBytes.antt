-- Numbers in a row of u8, each packed into its cell's byte.
use Rattle.std.specs.Prelude.{ℕ, List, slice_get, slice_index_or, ◌==◌, if◌then◌else◌}
use Rattle.rcell_pipe_rows.specs.RawRows.{is_hiding_mask_byte}

-- the number at index `place`, packed: 255 if the mask hides it or it denotes null
abbrev pub packed_byte_at_place : List ℕ → ℕ → List ℕ → ℕ → ℕ
packed_byte_at_place mask null bytes place = let number = slice_index_or bytes place 0 in if is_hiding_mask_byte (slice_get mask place) then 255 else (if number == null then 255 else number)
