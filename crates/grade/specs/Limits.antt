-- To be believed. The sizes and limits of a rule book, each in one place. `src/limits.rt` has the constants of the same names.
use Rattle.std.specs.Prelude.{ℕ}

-- the longest book, in bytes
abbrev pub book_limit : ℕ
book_limit = 65536

-- mark and version, in bytes
abbrev pub head_size : ℕ
head_size = 5

abbrev pub book_version : ℕ
book_version = 1

abbrev pub section_limit : ℕ
section_limit = 64

-- the longest key, in bytes
abbrev pub key_limit : ℕ
key_limit = 20

abbrev pub rule_limit : ℕ
rule_limit = 256

-- bytes of one rule
abbrev pub rule_size : ℕ
rule_size = 10

-- the names that count
abbrev pub segment_count : ℕ
segment_count = 10

-- a place for each name at its number, the end's at 0
abbrev pub name_places : ℕ
name_places = 11

abbrev pub field_limit : ℕ
field_limit = 99

abbrev pub component_limit : ℕ
component_limit = 20

abbrev pub set_limit : ℕ
set_limit = 64

-- the most codes of a set
abbrev pub code_count_limit : ℕ
code_count_limit = 1024

-- the longest code, in bytes
abbrev pub code_limit : ℕ
code_limit = 20

-- a link for each of these places, and for each rule
abbrev pub link_limit : ℕ
link_limit = 267

-- the starts of a segment's parts up to the last field that a rule may name, and their end
abbrev pub field_places : ℕ
field_places = 101
