-- Laws of the whole book: its sections one after the other, the bytes before them, and what compiling a text answers. Assumes nothing.
use mathlib.Core.Path.{◌≡◌, refl, sym, ap, subst, ◌∙◌}
use mathlib.Core.Bool.{Bool, true, false, cond}
use mathlib.Core.List.{List, [], ◌∷◌, ◌++◌}
use Prim.Native.Nat.{ℕ, ◌+◌, ◌≤◌, ◌<◌, min}
use native.Mathlib.Omega.{arith}
use lib.Dec.{eqb, ltb}
use lib.ListN.{length, take, drop}
use lib.Seq.{take-append_seam}
use borrow.Author.Tests.{eqb-true, eq-eqb, ne_eqb, ltb-false}
use Rattle.std.specs.Prelude.{Result, Ok, Err}
use Rattle.hl7.specs.Text.{bytes}
use Rattle.hl7.proofs.Comparing.{and_both}
use Rattle.grade.specs.Book.{Contents}
use Rattle.grade.specs.Encoding.{each, spell_all, two_bytes_of, section_bytes, book_bytes}
use Rattle.grade.specs.Limits.{book_limit}
use Rattle.ack.specs.Splice.{limit, Wrote}
use Rattle.ack.proofs.Writing.{wrote_as, wrote-length, wrote-at-start, ◌then◌}
use Rattle.booktext.specs.Lines.{Statement, verb, says, statements, line_of, text_limit, a_section}
use Rattle.booktext.specs.Contents.{section_of, sections_in, meaning}
use Rattle.booktext.specs.Faults.{Told, tell, nothing, told_of, firstly, first_fault}
use Rattle.booktext.specs.Refusals.{wrong_at, bytes_told, first_name_fault, section_told, sections_told, beginning, named_told, refusal, outcome, written, unless_refused, compiled, compile_of}
use Rattle.booktext.specs.Standing.{statement_at, next_line, left, Finds, told_in, end_in, sound, Puts, MakesBy}
use Rattle.booktext.specs.declared.told.Fault.{Fault}
use Rattle.booktext.proofs.Telling.{row-some}
use Rattle.booktext.proofs.Completing.{Completes, completes_more, completes_over}
use Rattle.booktext.proofs.Answering.{written-short, written_done}
use Rattle.booktext.proofs.Stating.{left-start, onward, onward-none, onward-some, found-onward}
use Rattle.booktext.proofs.Faulting.{sound-all}
use Rattle.booktext.proofs.Forming.{section-passed, sizes_fit}

-- ---- the first that refuses
numbers : {a b : Told} → a ≡ b → a.number ≡ b.number
numbers e = ap (λ (x : Told). x.number) e

module _ {told : Told} (a b : Told) (e : told ≡ a) where
  told-first : (told.number ≡ 0 → ⊥) → told ≡ firstly a b
  told-first n = e ∙ sym (ap (λ (x : Bool). cond x b a) (ne_eqb a.number 0 (λ z. n (numbers e ∙ z))))

  told-next : told.number ≡ 0 → firstly a b ≡ b
  told-next z = ap (λ (x : Bool). cond x b a) (eq-eqb a.number 0 (sym (numbers e) ∙ z))

-- ---- a statement that is a section or not
abbrev pub told_at : List ℕ → List Statement → ℕ → Statement → List Statement → Told
told_at t all size s after = cond (says a_section s) (section_told t all size s after) nothing

abbrev pub bytes_at : List Statement → Statement → List Statement → List ℕ
bytes_at all s after = cond (says a_section s) (section_bytes (section_of all s after)) []

-- nothing is refused, and the bytes were put
puts_done : {want : Told} {xs o after : List ℕ} {at next : ℕ} → nothing ≡ want → Wrote o at xs after next → Puts want xs o at after (Ok next)
puts_done e w = record { tells = e; wrote = λ z. w; length = wrote-length w }

module _ (s : Statement) {v : ℕ} (e : v ≡ verb s) where
  pub says-section : v ≡ a_section → says a_section s ≡ true
  says-section f = eq-eqb (verb s) a_section (sym e ∙ f)

  module _ (t : List ℕ) (all after : List Statement) {o out : List ℕ} {at : ℕ} where
    pub any_section : v ≡ a_section → {r : Result ℕ Fault} → Puts (section_told t all at s after) (section_bytes (section_of all s after)) o at out r → Puts (told_at t all at s after) (bytes_at all s after) o at out r
    any_section f p = rw (says-section f) p

    pub any_other : (v ≡ a_section → ⊥) → {next : ℕ} → Wrote o at [] out next → Puts (told_at t all at s after) (bytes_at all s after) o at out (Ok next)
    any_other n w =
        let other : says a_section s ≡ false = ne_eqb (verb s) a_section (λ z. n (e ∙ z)) in
        rw other (puts_done refl w)

-- ---- the sections
module _ (t : List ℕ) (all : List Statement) (s : Statement) (ss : List Statement) where
  sections_spelled : spell_all section_bytes (sections_in all (s ∷ ss)) ≡ bytes_at all s ss ++ spell_all section_bytes (sections_in all ss)
  unfolding sections_in
  sections_spelled = by (says a_section s)
    where
      by : (b : Bool) → spell_all section_bytes (cond b (section_of all s ss ∷ sections_in all ss) (sections_in all ss)) ≡ cond b (section_bytes (section_of all s ss)) [] ++ spell_all section_bytes (sections_in all ss)
      by true = refl
      by false = refl

  module _ (size : ℕ) {told : Told} (e : told ≡ told_at t all size s ss) where
    abbrev later : ℕ → Told
    later n = sections_told t all n ss

    sections-refused : (told.number ≡ 0 → ⊥) → told ≡ sections_told t all size (s ∷ ss)
    unfolding sections_told
    sections-refused n = by (says a_section s) e
      where
        by : (b : Bool) → told ≡ cond b (section_told t all size s ss) nothing
            → told ≡ cond b (firstly (section_told t all size s ss) (later (size + length (section_bytes (section_of all s ss))))) (later size)
        by true e = told-first (section_told t all size s ss) (later (size + length (section_bytes (section_of all s ss)))) e n
        by false e = absurd (n (numbers e))

    -- the next ones begin where its bytes end
    sections_go_on : size ≤ book_limit → told.number ≡ 0 → {next : ℕ} → next ≡ min (size + length (bytes_at all s ss)) limit → (next ≤ book_limit) × (sections_told t all size (s ∷ ss) ≡ later next)
    unfolding sections_told
    sections_go_on near z {next} f = by (says a_section s) e f
      where
        by : (b : Bool) → told ≡ cond b (section_told t all size s ss) nothing → next ≡ min (size + length (cond b (section_bytes (section_of all s ss)) [])) limit
            → (next ≤ book_limit) × (cond b (firstly (section_told t all size s ss) (later (size + length (section_bytes (section_of all s ss))))) (later size) ≡ later next)
        by true e f =
            let short = (section-passed t all size s ss (sym (numbers e) ∙ z)).short in
            let to : size + length (section_bytes (section_of all s ss)) ≡ next = omega (arith, f, short) in
            (omega (arith, short, to), told-next (section_told t all size s ss) (later (size + length (section_bytes (section_of all s ss)))) e z ∙ ap later to)
        by false e f =
            let to : size ≡ next = omega (arith, f, near) in
            (omega (arith, near, to), ap later to)

-- what is told of all sections is what is told of those among the statements that are left, and whoever puts these has put all
pub record Making (t o : List ℕ) (at : ℕ) (ss : List Statement) (out : List ℕ) (to : ℕ) : Type 0 where
  pub near : to ≤ book_limit
  pub size : length out ≡ length o
  pub right : each sound ss ≡ true
  pub tells : sections_told t (statements t) at (statements t) ≡ sections_told t (statements t) to ss
  pub puts : Completes (spell_all section_bytes (sections_in (statements t) (statements t))) (spell_all section_bytes (sections_in (statements t) ss)) o at out to

pub making_start : (t o : List ℕ) (at : ℕ) → at ≤ book_limit → each sound (statements t) ≡ true → {r : ℕ} → Finds t (left t 0) (left t (next_line t r)) r → Making t o at (onward t (left t) r) o at
making_start t o at h e f =
    subst (λ (ss : List Statement). Making t o at ss o at) (sym (left-start t) ∙ found-onward t (left t) f)
    (record { near = h; size = refl; right = e; tells = refl; puts = λ after r w. w })

-- all sections were put, or one was refused
abbrev pub Made : (t o : List ℕ) → ℕ → (after : List ℕ) → Result ℕ Fault → Type 0
Made t o at after r = Puts (sections_told t (statements t) at (statements t)) (spell_all section_bytes (sections_in (statements t) (statements t))) o at after r

module _ (t : List ℕ) (line : ℕ) {o out : List ℕ} {at to : ℕ} (m : Making t o at (onward t (left t) line) out to) where
  pub making_over : length t < line → {after : List ℕ} {next : ℕ} → Wrote out to [] after next → Made t o at after (Ok next)
  unfolding sections_told sections_in
  making_over h w =
      let none = onward-none t (left t) h in
      puts_done (sym (m.tells ∙ ap (sections_told t (statements t) to) none))
      (completes_over m.puts (ap (λ (ss : List Statement). spell_all section_bytes (sections_in (statements t) ss)) none) w)

  module _ (h : line ≤ length t) where
    abbrev s : Statement
    s = statement_at t line 0

    abbrev after : List Statement
    after = left t (next_line t line)

    pub making_right : each sound (s ∷ after) ≡ true
    making_right = ap (each sound) (sym (onward-some t (left t) h)) ∙ m.right

    module _ {next : List ℕ} {one : Result ℕ Fault} (p : Puts (told_at t (statements t) to s after) (bytes_at (statements t) s after) out to next one) where
      pub making_refused : ((told_in one).number ≡ 0 → ⊥) → Made t o at next one
      making_refused n =
          record {
            tells = sections-refused t (statements t) s after to p.tells n ∙ sym (m.tells ∙ ap (sections_told t (statements t) to) (onward-some t (left t) h));
            wrote = λ z. absurd (n z);
            length = p.length ∙ m.size;
          }

      pub making_on : (told_in one).number ≡ 0 → {q r : ℕ} → q ≡ next_line t line → Finds t (left t q) (left t (next_line t r)) r → Making t o at (onward t (left t) r) next (end_in one)
      making_on z e f =
          let here = onward-some t (left t) h in
          let on = sections_go_on t (statements t) s after to p.tells m.near z (p.wrote z).ends in
          subst (λ (ss : List Statement). Making t o at ss next (end_in one)) (ap (left t) (sym e) ∙ found-onward t (left t) f)
          (record {
            near = on.0;
            size = p.length ∙ m.size;
            right = (and_both (sound s) (each sound after) making_right).1;
            tells = m.tells ∙ ap (sections_told t (statements t) to) here ∙ on.1;
            puts = completes_more m.puts (ap (λ (ss : List Statement). spell_all section_bytes (sections_in (statements t) ss)) here ∙ sections_spelled t (statements t) s after) (p.wrote z);
          })

-- ---- the book
-- what it begins with, and its sections
pub book-made : (t : List ℕ) {o second third fourth after : List ℕ} {a b c sections : ℕ} {r : Result ℕ Fault} → sections ≡ length (meaning t)
    → Wrote o 0 (bytes "VXB") second a → Wrote second a (two_bytes_of 1) third b → Wrote third b (sections ∷ []) fourth c
    → Made t fourth c after r
    → Puts (sections_told t (statements t) beginning (statements t)) (book_bytes (meaning t)) o 0 after r
unfolding book_bytes meaning
book-made t {c = c} e u v w p =
    let six : c ≡ beginning = omega (arith, u.ends, v.ends, w.ends) in
    record {
      tells = p.tells ∙ ap (λ (n : ℕ). sections_told t (statements t) n (statements t)) six;
      wrote = λ z. u then v then wrote_as w (ap (λ (n : ℕ). n ∷ []) e) then p.wrote z;
      length = p.length ∙ wrote-length w ∙ wrote-length v ∙ wrote-length u;
    }

book-length : (cs : List Contents) → length (book_bytes cs) ≡ beginning + length (spell_all section_bytes cs)
unfolding book_bytes
book-length cs = omega arith

-- ---- what is told of a text
makes_refused : {told r : Told} (t place : List ℕ) → r ≡ told → (r.number ≡ 0 → ⊥) → MakesBy told t r place
makes_refused {told} t place e n =
    let held : told.number ≡ 0 → ⊥ = λ z. n (numbers e ∙ z) in
    record {
      tells = e ∙ sym (ap (λ (x : Bool). cond x (tell 0 (length (compiled t)) 0) told) (ne_eqb told.number 0 held));
      fits = λ z. absurd (held z);
      holds = λ z. absurd (held z);
    }

-- rows 43 to 45, then the book
module _ (t : List ℕ) {names : Told} (e : names ≡ first_name_fault t (statements t) 0 (statements t)) where
  abbrev told : Told
  told = sections_told t (statements t) beginning (statements t)

  pub names-refused : (place : List ℕ) → (names.number ≡ 0 → ⊥) → MakesBy (named_told t) t names place
  names-refused place n = makes_refused t place (told-first (first_name_fault t (statements t) 0 (statements t)) told e n) n

  pub book_done : names.number ≡ 0 → {place after : List ℕ} → length place ≡ book_limit → (book : Result ℕ Fault) → Puts told (book_bytes (meaning t)) place 0 after book → MakesBy (named_told t) t (told_of book) after
  unfolding compiled meaning
  book_done h {after = after} room (Err fault) p =
      makes_refused t after (p.tells ∙ sym (told-next (first_name_fault t (statements t) 0 (statements t)) told e h)) (row-some fault.row)
  book_done h {place} {after} room (Ok size) p =
      let named-is : nothing ≡ named_told t = p.tells ∙ sym (told-next (first_name_fault t (statements t) 0 (statements t)) told e h) in
      let short = sizes_fit t (statements t) beginning (statements t) (omega arith) (sym (numbers p.tells)) in
      let fits : length (compiled t) ≤ book_limit = omega (arith, short, book-length (meaning t)) in
      let put : Wrote place 0 (compiled t) after size = p.wrote refl in
      let size_is : size ≡ length (compiled t) = omega (arith, put.ends, fits) in
      let none = eq-eqb (named_told t).number 0 (sym (numbers named-is)) in
      record {
        tells = ap (λ (n : ℕ). tell 0 n 0) size_is ∙ sym (ap (λ (x : Bool). cond x (tell 0 (length (compiled t)) 0) (named_told t)) none);
        fits = λ k. fits;
        holds = λ k. ap (take (length (compiled t))) (wrote-at-start put (omega (arith, fits, room))) ∙ take-append_seam (compiled t) (drop (length (compiled t)) place);
      }

-- rows 31 to 42, then the others
module _ (t : List ℕ) {first : Told} (e : first ≡ bytes_told t) where
  abbrev others : Told
  others = firstly (first_fault t 0 (statements t)) (named_told t)

  pub bytes-refused : (place : List ℕ) → (first.number ≡ 0 → ⊥) → MakesBy (refusal t) t first place
  unfolding refusal
  bytes-refused place n = makes_refused t place (told-first (bytes_told t) others e n) n

  module _ (h : first.number ≡ 0) where
    pub text-short : length t ≤ text_limit
    text-short = ltb-false text_limit (length t) (by (ltb text_limit (length t)) e)
      where
        by : (b : Bool) → first ≡ cond b (tell 31 0 0) (cond (ltb (wrong_at t) (length t)) (tell 32 (line_of t (wrong_at t)) 0) nothing) → b ≡ false
        by true e = absurd (omega (arith, h, numbers e))
        by false e = refl

    module _ {fault : Told} (f : fault ≡ first_fault t 0 (statements t)) where
      pub words-refused : (place : List ℕ) → (fault.number ≡ 0 → ⊥) → MakesBy (refusal t) t fault place
      unfolding refusal
      words-refused place n = makes_refused t place (told-first (first_fault t 0 (statements t)) (named_told t) f n ∙ sym (told-next (bytes_told t) others e h)) n

      module _ (k : fault.number ≡ 0) where
        pub text-sound : each sound (statements t) ≡ true
        text-sound = sound-all t 0 (statements t) (sym (numbers f) ∙ k)

        pub text-made : {r : Told} {place : List ℕ} → MakesBy (named_told t) t r place → MakesBy (refusal t) t r place
        unfolding refusal
        text-made {r} {place} m =
            subst (λ (told : Told). MakesBy told t r place) (sym (told-next (bytes_told t) others e h ∙ told-next (first_fault t 0 (statements t)) (named_told t) f k)) m

-- ---- compiling
module _ (t place : List ℕ) {made : Told} (m : MakesBy (refusal t) t made place) where
  -- whatever was to be written of the text
  pub refused_as : (result out : List ℕ) → (made.number ≡ 0 → ⊥) → (made ≡ (unless_refused (refusal t) result out).told) × (out ≡ (unless_refused (refusal t) result out).output)
  refused_as result out n = by (eqb (refusal t).number 0) m.tells
    where
      by : (b : Bool) → made ≡ cond b (tell 0 (length (compiled t)) 0) (refusal t)
          → (made ≡ (cond b (written result out) (outcome (refusal t) out)).told) × (out ≡ (cond b (written result out) (outcome (refusal t) out)).output)
      by true e = absurd (n (numbers e))
      by false e = (e, refl)

  abbrev Compiles : (out : List ℕ) → Told → List ℕ → Type 0
  Compiles out r after = (r ≡ (compile_of t out).told) × (after ≡ (compile_of t out).output)

  pub compile_refused : (out : List ℕ) → (made.number ≡ 0 → ⊥) → Compiles out made out
  unfolding compile_of
  compile_refused out n = refused_as (compiled t) out n

  module _ (h : made.number ≡ 0) where
    pub none-refused : (refusal t).number ≡ 0
    none-refused = by (eqb (refusal t).number 0) refl m.tells
      where
        by : (b : Bool) → eqb (refusal t).number 0 ≡ b → made ≡ cond b (tell 0 (length (compiled t)) 0) (refusal t) → (refusal t).number ≡ 0
        by true e f = eqb-true (refusal t).number 0 e
        by false e f = sym (numbers f) ∙ h

    pub answered_as : (result out : List ℕ) → unless_refused (refusal t) result out ≡ written result out
    answered_as result out = ap (λ (b : Bool). cond b (written result out) (outcome (refusal t) out)) (eq-eqb (refusal t).number 0 none-refused)

    made-is : made ≡ tell 0 (length (compiled t)) 0
    made-is = m.tells ∙ ap (λ (b : Bool). cond b (tell 0 (length (compiled t)) 0) (refusal t)) (eq-eqb (refusal t).number 0 none-refused)

    size_is : made.detail ≡ length (compiled t)
    size_is = ap (λ (x : Told). x.detail) made-is

    pub size_fits : length place ≡ book_limit → made.detail ≤ length place
    size_fits room = omega (arith, size_is, room, m.fits none-refused)

    module _ (out : List ℕ) where
      compile_is : compile_of t out ≡ written (compiled t) out
      unfolding compile_of
      compile_is = answered_as (compiled t) out

      pub compile_short : length out < made.detail → {r : Told} → r ≡ tell 55 made.detail 0 → Compiles out r out
      compile_short l f = rw compile_is (written-short (compiled t) out size_is l f)

      pub compile_done : made.detail ≤ length out → {after : List ℕ} {n : ℕ} → Wrote out 0 (take made.detail place) after n → Compiles out made after
      compile_done l w =
          let book : take made.detail place ≡ compiled t = ap (λ (n : ℕ). take n place) size_is ∙ m.holds none-refused in
          let told : made ≡ tell 0 made.detail 0 = made-is ∙ ap (λ (n : ℕ). tell 0 n 0) (sym size_is) in
          rw compile_is (written_done (compiled t) out size_is l told (wrote_as w book))
