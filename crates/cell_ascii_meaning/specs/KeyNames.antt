-- The names of header keys (r.in.ascii manual).
use Rattle.std.specs.Prelude.{ℕ, List, Option, Some, None, if◌then◌else◌, codes, bytes_eq}
use Rattle.cell_ascii_meaning.specs.declared.header_key.HeaderKey.{HeaderKey}
use Rattle.cell_ascii_meaning.specs.declared.header_key.HeaderKey.TheVariants.{North, South, East, West, Rows, Cols, Null, CellType, Multiplier}

-- the key with this name, if there is one
abbrev pub header_key_with_name : List ℕ → Option HeaderKey
header_key_with_name name =
    if bytes_eq name (codes "north") then Some North
    else (if bytes_eq name (codes "south") then Some South
    else (if bytes_eq name (codes "east") then Some East
    else (if bytes_eq name (codes "west") then Some West
    else (if bytes_eq name (codes "rows") then Some Rows
    else (if bytes_eq name (codes "cols") then Some Cols
    else (if bytes_eq name (codes "null") then Some Null
    else (if bytes_eq name (codes "type") then Some CellType
    else (if bytes_eq name (codes "multiplier") then Some Multiplier
    else None))))))))
