-- What indexing a book tells: which row, or where its sections start; and what a section is that is then found by the index. Assumes nothing.
use Rattle.std.specs.Prelude.{Option, Some, None}
use Prim.Native.Nat.{ℕ, ◌≤◌, ◌<◌}
use native.Mathlib.Omega.{arith}
use mathlib.Core.Path.{◌≡◌, refl, sym, ap, subst, ◌∙◌}
use mathlib.Core.Bool.{Bool, true, false, cond, not, ◌&&◌, ◌||◌, true≢false}
use mathlib.Core.List.{List, [], ◌∷◌, map}
use borrow.Author.Tests.{le-leb, lt-leb, leb-true, eq-eqb, ne_eqb}
use lib.Dec.{eqb, leb}
use lib.ListN.{length, get_or, take}
use lib.Seq.{length-take-le}
use Rattle.hl7.specs.Text.{bytes}
use Rattle.hl7.specs.Bytes.{within, is_in, distinct as apartly, all, among, begins}
use Rattle.hl7.specs.Refusals.{Told, told, Row, row, first_row, passes, numbers_of}
use Rattle.hl7.proofs.Comparing.{and_both, all-at}
use Rattle.hl7.proofs.Refusing.{rows_append, none-exactly}
use Rattle.grade.specs.Limits.{head_size, book_limit, book_version, section_limit}
use Rattle.grade.specs.Reader.{fault, found, is_found, items_of, times}
use Rattle.grade.specs.Book.{section, distinct, keys, sections, head_right, version, decoded, malformed, other_version, no_section}
use Rattle.grade.specs.Admission.{Indexed, book_rows, indexed_told, admitted_told}
use Rattle.grade.specs.Standing.{up_to, text_at, TextFits, stands_at, contents_at, starting, starts_in, site_of, site_in, Listed, IndexesBy, Indexes, OpensBook}
use Rattle.grade.proofs.Readings.{starts-stand}
use Rattle.grade.proofs.Parts.{stands-key, sections-say, keys_texts}
use Rattle.grade.proofs.Opening.{opens-refused, opens_as, sections-started}
use Rattle.std.specs.Prelude.{Result, Ok, Err}
use Rattle.grade.specs.declared.walk.Section.{Section}
use Rattle.grade.specs.declared.refusal.Refusal.{Refusal}
use Rattle.grade.specs.declared.book.Unusable.{Unusable}

-- ---- the ways out

-- a book that cannot be used is refused
pub unusable_some : (why : Unusable) → (indexed_told (Err why)).number ≡ 0 → ⊥
unusable_some Unusable.Malformed e = omega (arith, e)
unusable_some Unusable.OtherVersion e = omega (arith, e)

-- a refusal
indexes_refused : {rows : List Row} {b starts : List ℕ} {r : Indexed} → indexed_told r ≡ first_row rows → ((indexed_told r).number ≡ 0 → ⊥) → IndexesBy rows b starts r
indexes_refused e some = record { told_is = e; listed = λ count is. absurd (some (ap (λ (x : Indexed). (indexed_told x).number) is)) }

-- so many sections
indexes_of : {rows : List Row} {b starts : List ℕ} {count : ℕ} → told 0 0 ≡ first_row rows → Listed b starts count → IndexesBy rows b starts (Ok count)
indexes_of {b = b} {starts} {count} e w = record { told_is = e; listed = λ n is. subst (Listed b starts) (same n is) w }
  where
    same : (n : ℕ) → ◌≡◌ {A = Indexed} (Ok count) (Ok n) → count ≡ n
    same n is = cc

-- rows that tell the same allow the same
indexes_as : {rows others : List Row} {b starts : List ℕ} {r : Indexed} → first_row rows ≡ first_row others → IndexesBy rows b starts r → IndexesBy others b starts r
indexes_as same w = record { told_is = w.told_is ∙ same; listed = w.listed }

-- ---- what follows the head: what each exit has learnt, one reader after the other
module _ (b : List ℕ) where
  abbrev pub Tells : List ℕ → Indexed → Type 0
  Tells starts = IndexesBy (row 7 (not (is_found (sections b head_size))) ∷ []) b starts

  at-fault : {starts : List ℕ} → sections b head_size ≡ fault → Tells starts (Err Unusable.Malformed)
  unfolding first_row
  at-fault e = indexes_refused (rw e) (λ e. omega (arith, e))

  pub no_count : {starts : List ℕ} → length b ≤ 5 → Tells starts (Err Unusable.Malformed)
  unfolding sections
  no_count h = at-fault (rw (lt-leb 6 (length b) (omega arith)))

  module _ (h : 5 < length b) where
    pub wrong_count : {starts : List ℕ} → (leb 1 (get_or b 5 0) && leb (get_or b 5 0) section_limit) ≡ false → Tells starts (Err Unusable.Malformed)
    unfolding sections
    wrong_count e = at-fault (rw (le-leb 6 (length b) h, e))

    module _ (l : (leb 1 (get_or b 5 0) && leb (get_or b 5 0) section_limit) ≡ true) where
      pub few-sections : get_or b 5 0 ≤ section_limit
      few-sections = leb-true (get_or b 5 0) section_limit (and_both (leb 1 (get_or b 5 0)) (leb (get_or b 5 0) section_limit) l).1

      module _ (starts : List ℕ) (r : Option ℕ) (w : times (get_or b 5 0) (starting section) b 6 ≡ up_to (take (get_or b 5 0) starts) r) where
        pub wrong_section : r ≡ None → Tells starts (Err Unusable.Malformed)
        unfolding sections
        wrong_section e = at-fault (rw (le-leb 6 (length b) h, l, sections-say b (get_or b 5 0) 6, w, e))

        module _ (end : ℕ) (e : r ≡ Some end) where
          walked : times (get_or b 5 0) (starting section) b 6 ≡ found (take (get_or b 5 0) starts) end
          walked = w ∙ ap (up_to (take (get_or b 5 0) starts)) e

          stand : all (stands_at b) (take (get_or b 5 0) starts) ≡ true
          stand = starts-stand section b (get_or b 5 0) 6 (take (get_or b 5 0) starts) end walked

          pub keys_fit : (k : ℕ) → k < length (take (get_or b 5 0) starts) → TextFits b (get_or (take (get_or b 5 0) starts) k 0)
          keys_fit k m = (stands-key b (get_or (take (get_or b 5 0) starts) k 0) (all-at (stands_at b) (take (get_or b 5 0) starts) k stand m)).0

          pub more_after : (end ≡ length b → ⊥) → Tells starts (Err Unusable.Malformed)
          unfolding sections
          more_after n = at-fault (rw (le-leb 6 (length b) h, l, sections-say b (get_or b 5 0) 6, walked, ne_eqb end (length b) n))

          module _ (n : end ≡ length b) where
            pub key_twice : distinct (map (text_at b) (take (get_or b 5 0) starts)) ≡ false → Tells starts (Err Unusable.Malformed)
            unfolding sections
            key_twice d = at-fault (rw (le-leb 6 (length b) h, l, sections-say b (get_or b 5 0) 6, walked, eq-eqb end (length b) n, keys_texts b (take (get_or b 5 0) starts) stand, d))

            pub all_indexed : distinct (map (text_at b) (take (get_or b 5 0) starts)) ≡ true → get_or b 5 0 ≤ length starts → Tells starts (Ok (get_or b 5 0))
            unfolding sections first_row
            all_indexed d fits =
                let read : is_found (sections b head_size) ≡ true = rw (le-leb 6 (length b) h, l, sections-say b (get_or b 5 0) 6, walked, eq-eqb end (length b) n, keys_texts b (take (get_or b 5 0) starts) stand, d) in
                indexes_of (rw read) (record { fits = fits; are = sym (ap items_of walked) })

-- ---- the whole book: the two tests are those of rows 7 and 8
pub head-long : (b : List ℕ) → head_right b ≡ true → head_size ≤ length b
unfolding head_right
head-long b h =
    let w = and_both (within head_size book_limit (length b)) (begins (bytes "VXB") b) h in
    leb-true head_size (length b) (and_both (leb head_size (length b)) (leb (length b) book_limit) w.0).0

module _ (b starts : List ℕ) where
  pub head_wrong : head_right b ≡ false → Indexes b starts (Err Unusable.Malformed)
  unfolding first_row malformed
  head_wrong h = indexes_refused (rw h) (λ e. omega (arith, e))

  module _ (h : head_right b ≡ true) where
    pub version_other : (version b ≡ book_version → ⊥) → Indexes b starts (Err Unusable.OtherVersion)
    unfolding first_row malformed other_version
    version_other n = indexes_refused (rw (h, ne_eqb (version b) book_version n)) (λ e. omega (arith, e))

    pub version_right_lem : {r : Indexed} → version b ≡ book_version → Tells b starts r → Indexes b starts r
    unfolding first_row malformed other_version
    version_right_lem e = indexes_as (rw (h, eq-eqb (version b) book_version e))

-- ---- by the index of a book, rows 7 to 9 with a key
abbrev index_rows : List ℕ → List Row
index_rows b = row 7 (malformed b) ∷ row 8 (other_version b) ∷ []

-- the last is tried where the first two pass
rows-say : (b key : List ℕ) → first_row (book_rows b key) ≡ cond (passes (index_rows b)) (first_row (row 9 (no_section b key) ∷ [])) (first_row (index_rows b))
unfolding book_rows numbers_of apartly is_in
rows-say b key = rows_append (index_rows b) (row 9 (no_section b key) ∷ []) refl

module _ (b starts : List ℕ) {r : Indexed} (is : Indexes b starts r) where
  pub open_refused : (key : List ℕ) {o : Result Section Refusal} → admitted_told o ≡ indexed_told r → ((admitted_told o).number ≡ 0 → ⊥) → OpensBook (book_rows b key) (site_in b key) o
  open_refused key e some =
      let first = e ∙ is.told_is in
      let refuses = ne_eqb (first_row (index_rows b)).number 0 (λ none. some (ap (λ (t : Told). t.number) first ∙ none)) in
      opens-refused (first ∙ sym (rows-say b key ∙ rw refuses)) some

  module _ {count : ℕ} (of : r ≡ Ok count) where
    none-holds : (first_row (index_rows b)).number ≡ 0
    none-holds = sym (ap (λ (t : Told). t.number) is.told_is) ∙ ap (λ (x : Indexed). (indexed_told x).number) of

    pub sections_read : is_found (sections b head_size) ≡ true
    unfolding malformed other_version numbers_of apartly is_in
    sections_read =
        let none = (none-exactly (index_rows b) refl).0 none-holds in
        by (head_right b) (eqb (version b) book_version) (is_found (sections b head_size)) (none 0) (none 1)
      where
        by : (head first read : Bool) → (not head || first && not read) ≡ false → not first ≡ false → read ≡ true
        by true true true e f = refl
        by true true false e f = absurd (true≢false e)
        by true false read e f = absurd (true≢false f)
        by false first read e f = absurd (true≢false e)

    pub index_fits : count ≤ length starts
    index_fits = (is.listed count of).fits

    pub index_says : decoded b ≡ map (contents_at b) (take count starts)
    index_says = (sections-started b sections_read).say ∙ ap (map (contents_at b)) (sym (is.listed count of).are)

    pub index_stand : all (stands_at b) (take count starts) ≡ true
    index_stand = ap (all (stands_at b)) (is.listed count of).are ∙ (sections-started b sections_read).stand

    pub open_found : (key : List ℕ) {o : Result Section Refusal} → OpensBook (row 9 (not (among key (map (text_at b) (take count starts)))) ∷ []) (site_of b key (take count starts)) o → OpensBook (book_rows b key) (site_in b key) o
    unfolding no_section
    open_found key =
        let are = (is.listed count of).are in
        let started = sections-started b sections_read in
        let named : map (text_at b) (take count starts) ≡ keys (decoded b) = ap (map (text_at b)) are ∙ sym (ap keys started.say ∙ keys_texts b (starts_in b) started.stand) in
        opens_as (ap (λ (l : List (List ℕ)). first_row (row 9 (not (among key l)) ∷ [])) named ∙ sym (rows-say b key ∙ rw (eq-eqb (first_row (index_rows b)).number 0 none-holds))) (ap (site_of b key) are)

-- ---- one answer
-- an answer on paper is one of the code's, with the number of sections: the other way round
abbrev indexed_of : Told → ℕ → Indexed
indexed_of t count = cond (eqb t.number 0) (Ok count) (cond (eqb t.number 7) (Err Unusable.Malformed) (Err Unusable.OtherVersion))

told_index : (b starts : List ℕ) (r : Indexed) → ((count : ℕ) → r ≡ Ok count → Listed b starts count) → indexed_of (indexed_told r) (length (starts_in b)) ≡ r
told_index b starts (Ok count) listed =
    let w = listed count refl in
    ap Ok (sym (ap length w.are) ∙ length-take-le count starts w.fits)
told_index b starts (Err Unusable.Malformed) listed = refl
told_index b starts (Err Unusable.OtherVersion) listed = refl

-- any two answers that the contract of `index_book` allows are equal
pub index_once : (b starts starts' : List ℕ) {r q : Indexed} → Indexes b starts r → Indexes b starts' q → r ≡ q
index_once b starts starts' {r} {q} v w =
    sym (told_index b starts r v.listed) ∙ ap (λ (t : Told). indexed_of t (length (starts_in b))) (v.told_is ∙ sym w.told_is) ∙ told_index b starts' q w.listed
