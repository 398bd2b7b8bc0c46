-- To be believed. The names of segments, and which may follow which. Assumes nothing.
use Rattle.std.specs.Prelude.{ℕ, zero, suc, ◌-◌, Bool, false, not, cond, ◌&&◌, ◌||◌, List, [], ◌∷◌, map, get_or, eqb, leb}
use Rattle.hl7.specs.Bytes.{is_in}
use Rattle.grade.specs.Limits.{segment_count, name_places}
use Rattle.grade.specs.Rule.{the_end, msh, pid, pd1, nk1, pv1, orc, rxa, rxr, obx, nte, counted, name_of_letters, other_number}
use Rattle.grade.specs.Strict.{count_from}

-- ---- names
-- a segment's name is its first three bytes
abbrev pub name_of : List ℕ → ℕ
name_of seg = name_of_letters (get_or seg 0 0) (get_or seg 1 0) (get_or seg 2 0)

-- the name that stands at place n, the end's after the last segment
abbrev pub name_at : List (List ℕ) → ℕ → ℕ
name_at segments n = get_or (map name_of segments) n the_end

-- the last counted name before place n, in order itself or not; none is like a name that does not count
unfoldable pub name_before : List (List ℕ) → ℕ → ℕ
name_before segments zero = other_number
name_before segments (suc n) = cond (counted (name_at segments n)) (name_at segments n) (name_before segments n)

-- how many segments before place n have this name, from the message's start on
unfoldable pub earlier : List (List ℕ) → ℕ → ℕ → ℕ
earlier segments name zero = 0
earlier segments name (suc n) = cond (eqb (name_at segments n) name) (suc (earlier segments name n)) (earlier segments name n)

-- ---- the order
-- every name may be followed by these
abbrev pub followers : ℕ → List ℕ
followers name =
    cond (eqb name msh) (pid ∷ [])
    (cond (eqb name pid) (pd1 ∷ nk1 ∷ pv1 ∷ orc ∷ the_end ∷ [])
    (cond (eqb name pd1 || eqb name nk1) (nk1 ∷ pv1 ∷ orc ∷ the_end ∷ [])
    (cond (eqb name pv1) (orc ∷ the_end ∷ [])
    (cond (eqb name orc) (rxa ∷ [])
    (cond (eqb name rxa) (rxr ∷ obx ∷ orc ∷ the_end ∷ [])
    (cond (eqb name rxr) (obx ∷ orc ∷ the_end ∷ [])
    (cond (eqb name obx || eqb name nte) (obx ∷ nte ∷ orc ∷ the_end ∷ [])
    [])))))))

unfoldable pub may_follow : ℕ → ℕ → Bool
may_follow before name = is_in name (followers before)

-- a counted segment after the first, or the end, breaks the order when it may not follow the counted one before it
abbrev pub out_of_order : (ℕ → ℕ → Bool) → ℕ → ℕ → Bool
out_of_order follows before name = counted before && (leb name segment_count && not (follows before name))

-- ---- the follow table: ten rows, one for each name, and eleven columns, one for the end and one for each name
abbrev pub table_of : (ℕ → ℕ → Bool) → List (List Bool)
table_of follows = map (λ before. map (follows before) (count_from the_end name_places)) (count_from msh segment_count)

abbrev pub table_says : List (List Bool) → ℕ → ℕ → Bool
table_says table before name = get_or (get_or table (before - 1) []) name false
