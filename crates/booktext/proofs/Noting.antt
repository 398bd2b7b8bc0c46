-- Laws of what a section takes over: a common that is used twice, and statements that are noted one after the other. Assumes nothing.
use mathlib.Core.Path.{◌≡◌, refl, sym, ap, ap₂, subst, ◌∙◌}
use mathlib.Core.Bool.{Bool, true, false, cond, not, ◌&&◌}
use mathlib.Core.List.{List, [], ◌∷◌, ◌++◌, map, append-nil, append_assoc, map-append}
use Prim.Native.Nat.{ℕ, ◌+◌, ◌≤◌, ◌<◌}
use native.Mathlib.Omega.{arith}
use native.Mathlib.Numerals.{add-one}
use lib.ListN.{length, get_or, take, drop, set, length-append, length-map}
use native.Mathlib.Decide.{dec_lt}
use Rattle.std.proofs.lemmas.List.Elements.{All-same, All-push}
use lib.Seq.{take-suc-set, length-take-le}
use borrow.Author.Tests.{eq-eqb, ne_eqb}
use Rattle.booktext.specs.Lines.{Statement, verb, says, line_of, a_use, a_common, statements}
use Rattle.booktext.specs.Meaning.{body, from, under, give, taken, expand}
use Rattle.booktext.specs.Faults.{Told, tell, nothing}
use Rattle.booktext.specs.Refusals.{is_first, used_twice, statement_limit}
use Rattle.booktext.specs.Standing.{words_from, statement_at, next_line, left, body_from, Finds, noted, Marked, Holds, NotesMore}
use Rattle.booktext.specs.Cells.{Cell}
use Rattle.booktext.proofs.Stating.{onward, onward-none, onward-some, onward_step}

-- ---- row 46
module _ (after : List Statement) (s : Statement) {v : ℕ} (e : v ≡ verb s) where
  pub repeated_use : v ≡ a_use → {b : Bool} → b ≡ is_first after s → not b ≡ (says a_use s && not (is_first after s))
  repeated_use h f = ap not f ∙ sym (ap (λ (b : Bool). b && not (is_first after s)) (eq-eqb (verb s) a_use (sym e ∙ h)))

  pub repeated_no : (v ≡ a_use → ⊥) → false ≡ (says a_use s && not (is_first after s))
  repeated_no h = sym (ap (λ (b : Bool). b && not (is_first after s)) (ne_eqb (verb s) a_use (λ q. h (e ∙ q))))

module _ (t : List ℕ) (head start : ℕ) where
  abbrev all_twice : List Statement → Told
  all_twice = used_twice t (line_of t head) (left t start)

  twice_is : (s : Statement) (ss : List Statement) → all_twice (s ∷ ss) ≡ cond (says a_use s && not (is_first (left t start) s)) (tell 46 (line_of t s.at) (line_of t head)) (all_twice ss)
  unfolding used_twice
  twice_is s ss = refl

  twice_none : all_twice [] ≡ nothing
  unfolding used_twice
  twice_none = refl

  module _ (at : ℕ) (passed : all_twice (body_from t start) ≡ all_twice (onward t (body_from t) at)) where
    pub twice_over : length t < at → nothing ≡ all_twice (body_from t start)
    twice_over h = sym (passed ∙ ap all_twice (onward-none t (body_from t) h) ∙ twice_none)

    module _ {b : Bool} (h : at ≤ length t) (e : b ≡ (says a_use (statement_at t at 0) && not (is_first (left t start) (statement_at t at 0)))) where
      twice_step : (ss : List Statement) → onward t (body_from t) at ≡ statement_at t at 0 ∷ ss → all_twice (body_from t start) ≡ cond b (tell 46 (line_of t at) (line_of t head)) (all_twice ss)
      twice_step ss f = passed ∙ ap all_twice f ∙ twice_is (statement_at t at 0) ss ∙ ap (λ (x : Bool). cond x (tell 46 (line_of t at) (line_of t head)) (all_twice ss)) (sym e)

      pub twice_here : b ≡ true → {line section : ℕ} {r : Told} → r ≡ tell 46 line section → line ≡ line_of t at → section ≡ line_of t head → r ≡ all_twice (body_from t start)
      twice_here f g l m =
          let ss = body_from t (next_line t at) in
          g ∙ ap₂ (tell 46) l m
          ∙ sym (twice_step ss (onward-some t (body_from t) h) ∙ ap (λ (x : Bool). cond x (tell 46 (line_of t at) (line_of t head)) (all_twice ss)) f)

      pub twice_on : b ≡ false → {p r : ℕ} → p ≡ next_line t at → Finds t (body_from t p) (body_from t (next_line t r)) r → all_twice (body_from t start) ≡ all_twice (onward t (body_from t) r)
      twice_on f {p} {r} g n =
          let ss = onward t (body_from t) r in
          twice_step ss (onward_step t (body_from t) h g n) ∙ ap (λ (x : Bool). cond x (tell 46 (line_of t at) (line_of t head)) (all_twice ss)) f

-- ---- noting
module _ (t : List ℕ) where
  holds_as : {cells : List Cell} {count : ℕ} {ss xs : List Statement} → ss ≡ xs → Holds t cells count ss → Holds t cells count xs
  holds_as {cells} {count} e h = subst (Holds t cells count) e h

  holds-none : (cells : List Cell) → Holds t cells 0 []
  holds-none cells = record { exact = λ k. refl; over = λ k. absurd (omega arith); marks = λ k i d h. absurd (omega (arith, h)) }

  -- one more, and one for which there is no room
  pub notes_one : (cells : List Cell) (count : ℕ) (cell : Cell) → length cells ≡ statement_limit → count < statement_limit → Marked t cell → NotesMore t cells count (set cells count cell) (count + 1) (noted t cell ∷ [])
  notes_one cells count cell room h m ss k =
      let more : take (count + 1) (set cells count cell) ≡ take count cells ++ (cell ∷ []) = ap (λ (n : ℕ). take n (set cells count cell)) (add-one count) ∙ take-suc-set cells count cell (omega arith) in
      record {
        exact = λ few. ap (map (noted t)) more ∙ map-append (noted t) (take count cells) (cell ∷ []) ∙ ap (λ (xs : List Statement). xs ++ (noted t cell ∷ [])) (k.exact (omega arith));
        over = λ many. absurd (omega (arith, h, many));
        marks = λ few. All-same (Marked t) _ (take count cells ++ (cell ∷ [])) more (All-push (Marked t) (take count cells) cell (k.marks (omega (arith, h))) m);
      }

  -- with as many as fit, or more
  over_with : (cells : List Cell) (count : ℕ) (ss more : List Statement) → statement_limit < count → Holds t cells count ss → statement_limit < length (ss ++ more)
  over_with cells count ss more h k = omega (arith, k.over h, length-append ss more)

  pub notes_full : (cells : List Cell) (count : ℕ) (s : Statement) → length cells ≡ statement_limit → statement_limit ≤ count → NotesMore t cells count cells (statement_limit + 1) (s ∷ [])
  notes_full cells count s room h ss k = record { exact = λ few. absurd (omega (arith, few)); over = λ many. by_case (dec_lt statement_limit count); marks = λ few. absurd (omega (arith, few)) }
    where
      by_case : Dec (statement_limit < count) → statement_limit < length (ss ++ (s ∷ []))
      by_case (yes q) = over_with cells count ss (s ∷ []) q k
      by_case (no q) =
          let size = length-map (take count cells) (noted t) ∙ length-take-le count cells (omega (arith, q, room)) in
          omega (arith, q, h, sym (ap length (k.exact (omega (arith, q)))) ∙ size, length-append ss (s ∷ []))

  module _ (a : List Cell) (m : ℕ) where
    pub notes_none : {more : List Statement} → more ≡ [] → NotesMore t a m a m more
    notes_none e ss k = holds_as (sym (append-nil ss) ∙ ap (λ (xs : List Statement). ss ++ xs) (sym e)) k

    notes_over : (more : List Statement) → statement_limit < m → NotesMore t a m a m more
    notes_over more h ss k = record { exact = λ few. absurd (omega (arith, h, few)); over = λ many. over_with a m ss more h k; marks = λ few. absurd (omega (arith, h, few)) }

    module _ (b : List Cell) (n : ℕ) (xs : List Statement) (f : NotesMore t a m b n xs) where
      pub notes_as : (ys : List Statement) → xs ≡ ys → NotesMore t a m b n ys
      notes_as ys e ss k = holds_as (ap (λ (zs : List Statement). ss ++ zs) e) (f ss k)

      pub notes_then : (c : List Cell) (r : ℕ) (ys : List Statement) → NotesMore t b n c r ys → NotesMore t a m c r (xs ++ ys)
      notes_then c r ys g ss k = holds_as (append_assoc ss xs ys) (g (ss ++ xs) (f ss k))

-- in the midst of noting: whoever notes the rest from here has noted all from the start
pub record Noting (t : List ℕ) (before : List Cell) (count : ℕ) (all : List Statement) (cells : List Cell) (n : ℕ) (rest : List Statement) : Type 0 where
  pub same : length cells ≡ length before
  pub goes : (after : List Cell) (r : ℕ) → NotesMore t cells n after r rest → NotesMore t before count after r all

module _ (t : List ℕ) (before : List Cell) (count : ℕ) where
  pub noting_start : (all rest : List Statement) → all ≡ rest → Noting t before count all before count rest
  noting_start all rest e = record { same = refl; goes = λ after r f. notes_as t before count after r rest f all (sym e) }

module _ (t : List ℕ) (before : List Cell) (count : ℕ) (all : List Statement) (cells : List Cell) (n : ℕ) where
  module _ (rest : List Statement) (w : Noting t before count all cells n rest) where
    noting_on : (now later : List Statement) (after : List Cell) (k : ℕ) → rest ≡ now ++ later → length after ≡ length cells → NotesMore t cells n after k now → Noting t before count all after k later
    noting_on now later after k e s f =
        record {
          same = s ∙ w.same;
          goes = λ last r g. w.goes last r (notes_as t cells n last r (now ++ later) (notes_then t cells n after k now f last r later g) rest (sym e));
        }

    -- no room is left
    pub noting_over : statement_limit < n → NotesMore t before count cells n all
    noting_over h = w.goes cells n (notes_over t cells n rest h)

    noting_done : rest ≡ [] → NotesMore t before count cells n all
    noting_done e = w.goes cells n (notes_none t cells n e)

  -- one statement of a common, taken over with a severity
  module _ (letter at : ℕ) (w : Noting t before count all cells n (map (give letter) (onward t (body_from t) at))) where
    pub block_on : at ≤ length t → (after : List Cell) (k : ℕ) → length after ≡ length cells → NotesMore t cells n after k (statement_at t at letter ∷ []) → {p r : ℕ} → p ≡ next_line t at → Finds t (body_from t p) (body_from t (next_line t r)) r
        → Noting t before count all after k (map (give letter) (onward t (body_from t) r))
    block_on h after k s f {p} {r} e g = noting_on _ w (statement_at t at letter ∷ []) _ after k (ap (map (give letter)) (onward_step t (body_from t) h e g)) s f

    pub block_done : length t < at → NotesMore t before count cells n all
    block_done h = noting_done _ w (ap (map (give letter)) (onward-none t (body_from t) h))

  -- one statement of the section, with what it takes over
  module _ (at : ℕ) (w : Noting t before count all cells n (expand (statements t) (onward t (body_from t) at))) where
    pub section_on : at ≤ length t → (after : List Cell) (k : ℕ) → length after ≡ length cells → NotesMore t cells n after k (statement_at t at 0 ∷ taken (statements t) (statement_at t at 0)) → {p r : ℕ} → p ≡ next_line t at → Finds t (body_from t p) (body_from t (next_line t r)) r
        → Noting t before count all after k (expand (statements t) (onward t (body_from t) r))
    unfolding expand
    section_on h after k s f {p} {r} e g = noting_on _ w (statement_at t at 0 ∷ taken (statements t) (statement_at t at 0)) _ after k (ap (expand (statements t)) (onward_step t (body_from t) h e g)) s f

    pub section_done : length t < at → NotesMore t before count cells n all
    unfolding expand
    section_done h = noting_done _ w (ap (expand (statements t)) (onward-none t (body_from t) h))

-- from none noted
pub noted-all : (t : List ℕ) (before : List Cell) (all : List Statement) (cells : List Cell) (n : ℕ) → NotesMore t before 0 cells n all → Holds t cells n all
noted-all t before all cells n f = f [] (holds-none t before)

-- ---- what a statement takes over
module _ (t : List ℕ) (at : ℕ) where
  abbrev all-taken : List Statement
  all-taken = taken (statements t) (statement_at t at 0)

  abbrev given_by : List Statement → List Statement
  given_by = map (give (get_or (get_or (words_from t at) 2 []) 0 0))

  taken-by : (b : Bool) → says a_use (statement_at t at 0) ≡ b → all-taken ≡ cond b (given_by (under a_common (get_or (words_from t at) 1 []) (statements t))) []
  unfolding taken
  taken-by b e = ap (λ (x : Bool). cond x (given_by (under a_common (get_or (words_from t at) 1 []) (statements t))) []) e

  module _ {v : ℕ} (e : v ≡ verb (statement_at t at 0)) where
    pub taken_no : (v ≡ a_use → ⊥) → all-taken ≡ []
    taken_no h = taken-by false (ne_eqb (verb (statement_at t at 0)) a_use (λ q. h (e ∙ q)))

    module _ (h : v ≡ a_use) {name : List ℕ} {found : ℕ} (w : name ≡ get_or (words_from t at) 1 []) (f : Finds t (from a_common name (statements t)) (left t (next_line t found)) found) where
      taken_is : all-taken ≡ given_by (under a_common name (statements t))
      taken_is =
          taken-by true (eq-eqb (verb (statement_at t at 0)) a_use (sym e ∙ h))
          ∙ ap (λ (x : List ℕ). given_by (under a_common x (statements t))) (sym w)

      pub taken_none : length t < found → all-taken ≡ []
      unfolding body
      taken_none k = taken_is ∙ ap (λ (ss : List Statement). given_by (body (drop 1 ss))) (f.none k)

      pub taken-some : found ≤ length t → {p letter : ℕ} {x : List ℕ} → p ≡ next_line t found → x ≡ get_or (words_from t at) 2 [] → letter ≡ get_or x 0 0 → map (give letter) (body_from t p) ≡ all-taken
      taken-some k q y l =
          ap₂ (λ (u z : ℕ). map (give u) (body_from t z)) (l ∙ ap (λ (u : List ℕ). get_or u 0 0) y) q
          ∙ sym (taken_is ∙ ap (λ (ss : List Statement). given_by (body (drop 1 ss))) (f.some k))
