-- To be believed. The legend of a text, a line for each section and each of its rules, and what asking for it answers. Assumes nothing.
use Rattle.std.specs.Prelude.{ℕ, suc, Bool, cond, not, ◌&&◌, ◌||◌, List, [], ◌∷◌, ◌++◌, drop}
use Rattle.hl7.specs.Text.{bytes}
use Rattle.ack.specs.Decimal.{decimal}
use Rattle.ack.specs.Layout.{joined}
use Rattle.booktext.specs.Lines.{Statement, word, says, makes_rule, line_feed, a_section, a_severity, a_bound, statements}
use Rattle.booktext.specs.Meaning.{body, expand}
use Rattle.booktext.specs.Changes.{spot_of, says_of, amended, dropped}
use Rattle.booktext.specs.Contents.{letter_of}
use Rattle.booktext.specs.Refusals.{refusal, Outcome, unless_refused}
use Rattle.legend.specs.People.{line_at, people}

-- ---- lines

-- words for people stand behind a bar, if there are any
abbrev pub remark : List ℕ → List ℕ
remark [] = []
remark (x ∷ words) = bytes " | " ++ (x ∷ words)

-- those of a statement's own line
abbrev pub remark_of : List ℕ → Statement → List ℕ
remark_of t s = remark (people (line_at t s.at))

-- words with one blank between them, and what is remarked
abbrev pub legend_line : List (List ℕ) → List ℕ → List ℕ
legend_line words remarks = joined 32 words ++ (remarks ++ (line_feed ∷ []))

-- ---- rules

-- it gives a place and kind another severity or bound
abbrev pub changes : ℕ → Statement → Bool
changes spot x = says_of a_severity spot x || says_of a_bound spot x

-- what is remarked where those that follow do
unfoldable pub later_remarks : List ℕ → ℕ → List Statement → List ℕ
later_remarks t spot [] = []
later_remarks t spot (x ∷ ss) = cond (changes spot x) (remark_of t x ++ later_remarks t spot ss) (later_remarks t spot ss)

-- key, number, place, kind, severity, and the words of the bound, of a rule as those that follow leave it; its own remark, and theirs
unfoldable pub rule_legend : List ℕ → List ℕ → ℕ → Statement → List ℕ → List ℕ
rule_legend t key n s remarks = legend_line (key ∷ decimal n ∷ word s 1 ∷ word s 2 ∷ (letter_of s ∷ []) ∷ drop 4 s.words) remarks

-- a rule that none of those that follow drops
abbrev pub stays : Statement → List Statement → Bool
stays s ss = makes_rule s && not (dropped (spot_of s) ss)

-- its line
abbrev pub line_of_rule : List ℕ → List ℕ → ℕ → Statement → List Statement → List ℕ
line_of_rule t key n s ss = rule_legend t key n (amended (spot_of s) s ss) (remark_of t s ++ later_remarks t (spot_of s) ss)

-- the rules that statements make, which count from n
unfoldable pub rules_legend : List ℕ → List ℕ → ℕ → List Statement → List ℕ
rules_legend t key n [] = []
rules_legend t key n (s ∷ ss) = cond (stays s ss) (line_of_rule t key n s ss ++ rules_legend t key (suc n) ss) (rules_legend t key n ss)

-- ---- sections

-- number 0 stands for the section: findings of the header and the order carry it
unfoldable pub section_legend : List ℕ → List Statement → Statement → List Statement → List ℕ
section_legend t all s after =
    legend_line (word s 1 ∷ bytes "0" ∷ []) (remark_of t s) ++ rules_legend t (word s 1) 1 (expand all (body after))

unfoldable pub legend_in : List ℕ → List Statement → List Statement → List ℕ
legend_in t all [] = []
legend_in t all (s ∷ ss) = cond (says a_section s) (section_legend t all s ss ++ legend_in t all ss) (legend_in t all ss)

unfoldable pub legend : List ℕ → List ℕ
legend t = legend_in t (statements t) (statements t)

-- ---- what is answered

-- a text is refused as compiling refuses it
unfoldable pub legend_of : (t out : List ℕ) → Outcome
legend_of t out = unless_refused (refusal t) (legend t) out
