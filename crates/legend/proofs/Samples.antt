-- Small texts and their legends, as the definitions give them: one table under one statement. Assumes nothing.
use Prim.Native.String.{String}
use mathlib.Core.Path.{◌≡◌, refl}
use mathlib.Core.Bool.{Bool, true, ◌&&◌}
use mathlib.Core.List.{List, [], ◌∷◌}
use Rattle.hl7.specs.Text.{bytes}
use Rattle.hl7.specs.Bytes.{all, same}
use Rattle.hl7.specs.Cut.{ahead, cut}
use Rattle.hl7.specs.Number.{value_after}
use Rattle.grade.specs.Rule.{segment_names, name_bytes, number_from as name_from, name_of_letters}
use Rattle.ack.specs.Decimal.{last_digits, decimal}
use Rattle.ack.specs.Layout.{joined, marked}
use Rattle.booktext.specs.Lines.{cut_at, filled, words_in, unless_silent, statements_from, statements, number_from, verbs, verb_of}
use Rattle.booktext.specs.Meaning.{body, from, taken, expand}
use Rattle.booktext.specs.Words.{is_number, number_in, place_in, kind_names, kind_number}
use Rattle.booktext.specs.Changes.{spot_of, amended, dropped}
use Rattle.legend.specs.People.{unled, untrailed, people}
use Rattle.legend.specs.Legend.{later_remarks, rule_legend, rules_legend, section_legend, legend_in, legend}

-- a text and its legend
data Sample : Type 0 where
  tells : String → String → Sample

right : Sample → Bool
right (tells text lines) = same (legend (bytes text)) (bytes lines)

all_right : List Sample → Bool
all_right [] = true
all_right (s ∷ samples) = right s && all_right samples

samples : List Sample
samples =
    -- no words, and a bar without words
    tells "book 1\nsection A\nrule PID-8 REQUIRED W |\n" "A 0\nA 1 PID-8 REQUIRED W\n"
    -- words keep what is in them, a bar too, and lose the blanks around them
    ∷ tells "book 1\nsection A|  New  Jersey | x \t\r\nrule PID-7.1 TIME E 8\nalso PID-7.1 TIME W 4 |a\tb" "A 0 | New  Jersey | x\nA 1 PID-7.1 TIME E 8\nA 2 PID-7.1 TIME W 4 | a\tb\n"
    -- numbers go on through a common; the severity is the section's; a set has its name; words of a use or a common are no rule's
    ∷ tells
    "book 1\ncommon c | words of a common\nrule PID-8 CODE E s | sex\nrule RXA-15 LENGTH W 1 16\nset s F M\nsection A | one\nuse c I | words of a use\nsection BB\nrule PID-3.1 REQUIRED E | id\nsets s\nuse c\n"
    "A 0 | one\nA 1 PID-8 CODE I s | sex\nA 2 RXA-15 LENGTH I 1 16\nBB 0\nBB 1 PID-3.1 REQUIRED E | id\nBB 2 PID-8 CODE E s | sex\nBB 3 RXA-15 LENGTH W 1 16\n"
    -- a rule as a section changes it: its last severity and bound, and behind its own words those of each line that changes it; what is dropped has no line
    ∷ tells
    "book 1\nset s F M\nset u U\ncommon c\nrule PID-3.1 REQUIRED E | id\nrule PID-8 CODE E s | sex\nrule RXA-15 LENGTH W 1 16\nsection A\nuse c\nseverity PID-8 CODE W | softer\ndrop PID-3.1 REQUIRED | gone\nbound PID-8 CODE u\nseverity PID-8 CODE I | a remark | now\nbound RXA-15 LENGTH 2 9 | shorter\nmore u X | more\n"
    "A 0\nA 1 PID-8 CODE I u | sex | softer | a remark | now\nA 2 RXA-15 LENGTH W 2 9 | shorter\n"
    ∷ []

samples-right : all_right samples ≡ true
unfolding samples all_right right all same ahead cut value_after segment_names name_bytes name_from name_of_letters last_digits decimal joined marked cut_at filled words_in unless_silent statements_from statements number_from verbs verb_of body from taken expand unled untrailed people is_number number_in place_in kind_names kind_number spot_of amended dropped later_remarks rule_legend rules_legend section_legend legend_in legend
samples-right = refl
