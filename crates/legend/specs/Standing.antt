-- Inner: only contracts inside the crate use these names; nothing here has to be believed.
-- Parts of a rule's line, and that the statements of each section can be noted. Assumes nothing.
use Rattle.std.specs.Prelude.{ℕ, Bool, true, cond, not, ◌&&◌, ◌||◌, List, [], ◌∷◌, leb, length, drop}
use Rattle.ack.specs.Decimal.{decimal}
use Rattle.ack.specs.Layout.{joined}
use Rattle.booktext.specs.Lines.{Statement, word, says, a_section}
use Rattle.booktext.specs.Meaning.{body, expand}
use Rattle.booktext.specs.Contents.{letter_of}
use Rattle.booktext.specs.Refusals.{statement_limit}
use Rattle.legend.specs.Legend.{stays, line_of_rule}

-- a rule's line up to its remarks
unfoldable pub rule_words : List ℕ → ℕ → Statement → List ℕ
rule_words key n s = joined 32 (key ∷ decimal n ∷ word s 1 ∷ word s 2 ∷ (letter_of s ∷ []) ∷ drop 4 s.words)

-- the line of a statement, if it makes a rule that stays
unfoldable pub line_if_stays : List ℕ → List ℕ → ℕ → Statement → List Statement → List ℕ
line_if_stays t key n s ss = cond (stays s ss) (line_of_rule t key n s ss) []

-- no section among statements has over 2,048 statements after inclusion
unfoldable pub roomy : List Statement → List Statement → Bool
roomy all [] = true
roomy all (s ∷ ss) = (not (says a_section s) || leb (length (expand all (body ss))) statement_limit) && roomy all ss
