-- Inner: only contracts inside the crates use these names; nothing here has to be believed.
-- A message's findings sheet by sheet. Assumes nothing.
use Rattle.std.specs.Prelude.{ℕ, ◌+◌, ◌≤◌, ◌<◌, ◌^◌, ◌≡◌, Bool, false, cond, ◌||◌, List, [], ◌++◌, length, take}
use Rattle.grade.specs.Limits.{field_places}
use Rattle.grade.specs.Deciding.{has, is_fault}
use Rattle.grade.specs.Order.{may_follow, out_of_order}
use Rattle.grade.specs.Rest.{Given, Stands, rest}
use Rattle.grade.specs.declared.finding.Finding.{Finding}
use Rattle.grade.specs.declared.step.Terms.{Terms}
use Rattle.grade.specs.declared.sheet.Sheet.{Sheet}

-- `src/sheet.rt` has the constant LINES
abbrev pub line_count : ℕ
line_count = 64

-- no message has more findings
abbrev pub finding_limit : ℕ
finding_limit = 2 ^ 40

-- ---- a sheet
-- its findings
unfoldable pub held : Sheet → List Finding
held s = take s.used s.lines

-- those behind it: none where the sheets have ended
unfoldable pub to_come : (m b : List ℕ) → Sheet → List Finding
to_come m b s = cond s.ended [] (rest (out_of_order may_follow) s.by.d m b s.by.section s.counts s.cursor)

-- the grader can go on behind it
pub record Ready (m b : List ℕ) (s : Sheet) : Type 0 where
  pub lined : length s.lines ≡ line_count
  pub wide : length s.starts ≡ field_places
  pub given : Given m b s.by.section s.sets s.links
  pub stands : s.ended ≡ false → Stands s.by.d m b s.by.section s.starts s.counts s.cursor

-- a sheet that was written: unless it is the last one, there is something on it
pub record Sheeted (m b : List ℕ) (s : Sheet) : Type 0 where
  pub ready : Ready m b s
  pub fits : s.used ≤ line_count
  pub goes : s.ended ≡ false → 1 ≤ s.used

-- r is the first of the sheets for what is still to come, where `seen` tells of a fault before it; in brief the sheets may end at a fault
pub record Gets (m b : List ℕ) (by : Terms) (brief seen : Bool) (left : List Finding) (r : Sheet) : Type 0 where
  pub sheeted : Sheeted m b r
  pub all : brief ≡ false → left ≡ held r ++ to_come m b r
  pub told : (r.fault || has is_fault (to_come m b r)) ≡ (seen || has is_fault left)
  pub less : r.ended ≡ false → length (to_come m b r) < length left
  pub same : r.by ≡ by
  pub briefly : r.brief ≡ brief

-- ---- the grader's run from a sheet on, for the next one, or, for the whole, to the end
pub record Lists (m b : List ℕ) (whole : Bool) (s r : Sheet) : Type 0 where
  pub ready : Ready m b r
  pub goes : r.ended ≡ false → (whole ≡ false) × (1 ≤ r.used)
  pub fits : whole ≡ false → r.used ≤ line_count
  pub all : whole ≡ false → s.brief ≡ false → to_come m b s ≡ held r ++ to_come m b r
  pub counted : s.brief ≡ false → r.used + length (to_come m b r) ≡ length (to_come m b s)
  pub told : (r.fault || has is_fault (to_come m b r)) ≡ (s.fault || has is_fault (to_come m b s))
  pub less : r.ended ≡ false → length (to_come m b r) < length (to_come m b s)
  pub same : r.by ≡ s.by
  pub briefly : r.brief ≡ s.brief
