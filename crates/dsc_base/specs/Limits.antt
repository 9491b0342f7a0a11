-- How much a build takes: what is longer or more is refused by a rule of its own.
use Rattle.std.specs.Prelude.{ℕ}

-- the most records of a stream, and the most exports of an image
abbrev pub record_limit : ℕ
record_limit = 1_048_576

-- the most rebases, binds and references of a set together
abbrev pub set_record_limit : ℕ
set_record_limit = 16_777_216

-- the most bytes that the names of exports have, those of one trie with what they re-export, or those of a set
abbrev pub export_names_limit : ℕ
export_names_limit = 134_217_728

-- the most bytes of a symbol's name
abbrev pub name_limit : ℕ
name_limit = 16_384

-- the most bytes that the mappings of a cache span
abbrev pub span_limit : ℕ
span_limit = 0x20000000
