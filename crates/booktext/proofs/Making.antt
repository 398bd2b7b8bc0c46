-- Laws of one section made: its rows one after the other, and its bytes. Assumes nothing.
use mathlib.Core.Path.{◌≡◌, refl, sym, ap, subst, ◌∙◌}
use mathlib.Core.Bool.{Bool, true, false, cond}
use mathlib.Core.List.{List, [], ◌∷◌, ◌++◌, map, append_assoc}
use Prim.Native.Nat.{ℕ, ◌+◌, ◌≤◌, ◌<◌}
use native.Mathlib.Omega.{arith}
use lib.Dec.{ltb}
use lib.ListN.{length, get_or, take, length-map, length-take}
use borrow.Author.Tests.{eqb-true, lt-ltb, le-ltb, eq-eqb, ne_eqb}
use Rattle.std.specs.Prelude.{Result}
use Rattle.hl7.specs.Bytes.{within}
use Rattle.hl7.proofs.Comparing.{and_both}
use Rattle.grade.specs.Book.{Contents}
use Rattle.grade.specs.Encoding.{each, spell_all, text_bytes, two_bytes_of, rule_bytes, set_bytes, section_bytes}
use Rattle.grade.specs.Limits.{book_limit, rule_limit, set_limit, code_count_limit}
use Rattle.ack.specs.Splice.{Wrote}
use Rattle.ack.proofs.Writing.{wrote_as, wrote-length, ◌then◌}
use Rattle.booktext.specs.Lines.{Statement, statements, word, verb, says, line_of, a_set, a_section}
use Rattle.booktext.specs.Meaning.{body, from, expand}
use Rattle.booktext.specs.Changes.{settled}
use Rattle.booktext.specs.Contents.{rules_of, names_of, held, contents_of, section_of}
use Rattle.booktext.specs.Faults.{Told, tell, nothing, firstly, key_right}
use Rattle.booktext.specs.Refusals.{at_of, statement_limit, used_twice, first_rule_fault, first_stray, first_bad_set, over, sizes_told, section_told}
use Rattle.booktext.specs.Standing.{words_from, span_bytes, statement_at, next_line, left, body_from, sound, ready, noted, Holds, CountsRules, names_in, told_in, end_in, Puts}
use Rattle.booktext.specs.Cells.{Cell}
use Rattle.booktext.specs.declared.names.Names.{Names}
use Rattle.booktext.specs.declared.told.Fault.{Fault}
use Rattle.booktext.proofs.Each.{each-body}
use Rattle.booktext.proofs.Sounding.{sounds}
use Rattle.booktext.proofs.Settling.{settled_stray, settled_bad, settled_sets}
use Rattle.booktext.proofs.Fitting.{fits-short}
use Rattle.booktext.proofs.Setting.{puts_refused}
use Rattle.booktext.proofs.Including.{plainly, statements-plain, expand-ready}

-- ---- rows, one after the other

module _ {a told : Told} (e : told ≡ a) where
  -- the first of two
  pub puts_first : (b : Told) {bytes o after : List ℕ} {at : ℕ} {r : Result ℕ Fault} → (told.number ≡ 0 → ⊥) → told_in r ≡ told → length after ≡ length o → Puts (firstly a b) bytes o at after r
  puts_first b h f same = puts_refused (f ∙ e ∙ sym is) (λ z. h (ap (λ (x : Told). x.number) (e ∙ sym is) ∙ z)) same
    where
      is : firstly a b ≡ a
      is = rw (ne_eqb a.number 0 (λ z. h (ap (λ (x : Told). x.number) e ∙ z)))

  -- the second, where the first does not
  pub puts_next : {b : Told} {bytes o after : List ℕ} {at : ℕ} {r : Result ℕ Fault} → told.number ≡ 0 → Puts b bytes o at after r → Puts (firstly a b) bytes o at after r
  puts_next {b} z p =
      let is : firstly a b ≡ b = rw (eq-eqb a.number 0 (ap (λ (x : Told). x.number) (sym e) ∙ z)) in
      record { tells = p.tells ∙ sym is; wrote = p.wrote; length = p.length }

-- a limit that is passed, or not
module _ (number line most n : ℕ) where
  over-told : most < n → tell number line line ≡ over number line (ltb most n)
  over-told h = rw (lt-ltb most n h)

  over-not : n ≤ most → nothing ≡ over number line (ltb most n)
  over-not h = rw (le-ltb most n h)

-- ---- key, counts and rules
pub front_put : {w key xs rules o p q r u : List ℕ} {a b c d e count : ℕ} → w ≡ key
    → Wrote o a (text_bytes w) p b → Wrote p b xs q c → Wrote q c (count ∷ []) r d → Wrote r d rules u e
    → Wrote o a (text_bytes key ++ (xs ++ (count ∷ rules))) u e
front_put f w x y z = wrote_as (w then x then y then z) (rw f)

-- ---- sizes

-- where no set is bad, nothing is told
none_bad : (t : List ℕ) (line : ℕ) (every ss : List Statement) (names : List (List ℕ)) → (first_bad_set t line every ss names).number ≡ 0 → first_bad_set t line every ss names ≡ nothing
unfolding first_bad_set
none_bad t line every ss [] h = refl
none_bad t line every ss (name ∷ names) h = by (within 1 code_count_limit (length (held every ss name))) (none_bad t line every ss names) h
  where
    by : (b : Bool) → ((first_bad_set t line every ss names).number ≡ 0 → first_bad_set t line every ss names ≡ nothing)
        → (cond b (first_bad_set t line every ss names) (tell 53 (line_of t (at_of (from a_set name every))) line)).number ≡ 0
        → cond b (first_bad_set t line every ss names) (tell 53 (line_of t (at_of (from a_set name every))) line) ≡ nothing
    by true ih h = ih h
    by false ih h = absurd (omega (arith, h))

module _ (t : List ℕ) (head : ℕ) (ss : List Statement) (at : ℕ) where
  abbrev key_of : List ℕ
  key_of = get_or (words_from t head) 1 []

  -- what the section holds
  abbrev section : Contents
  section = contents_of (statements t) key_of ss

  abbrev Made : List ℕ → List ℕ → Result ℕ Fault → Type 0
  Made o after r = Puts (sizes_told t (statements t) at (line_of t head) section ss) (section_bytes section) o at after r

  module _ {rules : ℕ} (counted : CountsRules (settled ss) rules) where
    rules-held : rules ≡ length section.rules
    unfolding contents_of
    rules-held = counted (names_of (settled ss))

    pub rules_many : {o : List ℕ} {r : Result ℕ Fault} → rule_limit < rules → told_in r ≡ tell 50 (line_of t head) (line_of t head) → Made o o r
    rules_many h e = puts_first (over-told 50 (line_of t head) rule_limit (length section.rules) (omega (arith, rules-held, h))) _ (λ z. absurd (omega (arith, z))) e refl

    module _ (few : rules ≤ rule_limit) where
      few_rules_lem : nothing ≡ over 50 (line_of t head) (ltb rule_limit (length section.rules))
      few_rules_lem = over-not 50 (line_of t head) rule_limit (length section.rules) (omega (arith, rules-held, few))

      sets-held : length section.sets ≡ length (names_of (settled ss))
      unfolding contents_of
      sets-held = length-map (names_of (settled ss)) (held (statements t) ss)

      pub sets_many : {o : List ℕ} {r : Result ℕ Fault} → set_limit < length (names_of (settled ss)) → told_in r ≡ tell 51 (line_of t head) (line_of t head) → Made o o r
      sets_many h e =
          puts_next few_rules_lem refl
          (puts_first (over-told 51 (line_of t head) set_limit (length section.sets) (omega (arith, sets-held, h))) _ (λ z. absurd (omega (arith, z))) e refl)

      module _ (names : Names) (n : names_in t names ≡ names_of (settled ss)) (room : length names.spans ≡ 64) where
        names-held : names.count ≡ length section.sets
        unfolding names_in
        names-held =
            omega (arith, sets-held, ap length n, length-map (take names.count names.spans) (span_bytes t), length-take names.count names.spans, room, names.few)

        few_sets_lem : nothing ≡ over 51 (line_of t head) (ltb set_limit (length section.sets))
        few_sets_lem = over-not 51 (line_of t head) set_limit (length section.sets) (omega (arith, names-held, names.few))

        module _ {stray : Told} (strayed : stray ≡ first_stray t (line_of t head) (names_in t names) ss) where
          told_stray : stray ≡ first_stray t (line_of t head) (names_of (settled ss)) ss
          told_stray = strayed ∙ ap (λ (names : List (List ℕ)). first_stray t (line_of t head) names ss) n

          -- a set is changed that it does not hold
          pub set_stray : {o : List ℕ} {r : Result ℕ Fault} → (stray.number ≡ 0 → ⊥) → told_in r ≡ stray → Made o o r
          set_stray h e = puts_next few_rules_lem refl (puts_next few_sets_lem refl (puts_first told_stray _ h e refl))

          module _ (held_All : stray.number ≡ 0) {o p q : List ℕ} {next : ℕ} {sets : Result ℕ Fault}
              (front : Wrote o at (text_bytes key_of ++ (two_bytes_of rules ++ (names.count ∷ spell_all rule_bytes (rules_of (names_in t names) (settled ss))))) p next)
              (put : Puts (first_bad_set t (line_of t head) (statements t) ss (names_in t names)) (spell_all set_bytes (map (held (statements t) ss) (names_in t names))) p next q sets) where
            told_bad : told_in sets ≡ first_bad_set t (line_of t head) (statements t) ss (names_of (settled ss))
            told_bad = put.tells ∙ ap (first_bad_set t (line_of t head) (statements t) ss) n

            same_size : length q ≡ length o
            same_size = put.length ∙ wrote-length front

            -- rows 50 to 52 tell nothing
            late : (b : Told) {r : Result ℕ Fault} → Puts (firstly (first_bad_set t (line_of t head) (statements t) ss (names_of (settled ss))) b) (section_bytes section) o at q r
                → Puts (firstly (over 50 (line_of t head) (ltb rule_limit (length section.rules))) (firstly (over 51 (line_of t head) (ltb set_limit (length section.sets))) (firstly (first_stray t (line_of t head) (names_of (settled ss)) ss) (firstly (first_bad_set t (line_of t head) (statements t) ss (names_of (settled ss))) b)))) (section_bytes section) o at q r
            late b p = puts_next few_rules_lem refl (puts_next few_sets_lem refl (puts_next told_stray held_All p))

            -- a set is bad
            pub set_bad : ((told_in sets).number ≡ 0 → ⊥) → Made o q sets
            set_bad h = late _ (puts_first told_bad _ h refl same_size)

            module _ (right : (told_in sets).number ≡ 0) where
              spelt : (text_bytes key_of ++ (two_bytes_of rules ++ (names.count ∷ spell_all rule_bytes (rules_of (names_in t names) (settled ss))))) ++ spell_all set_bytes (map (held (statements t) ss) (names_in t names)) ≡ section_bytes section
              unfolding contents_of
              spelt =
                  append_assoc (text_bytes key_of) (two_bytes_of rules ++ (names.count ∷ spell_all rule_bytes (rules_of (names_in t names) (settled ss)))) (spell_all set_bytes (map (held (statements t) ss) (names_in t names)))
                  ∙ rw (n, names-held, rules-held)

              whole : Wrote o at (section_bytes section) q (end_in sets)
              whole = wrote_as (front then put.wrote right) spelt

              -- the book is too long
              pub book-long : {r : Result ℕ Fault} → book_limit < (end_in sets) → told_in r ≡ tell 54 (line_of t head) (line_of t head) → Made o q r
              book-long h e =
                  late _ (puts_next told_bad right (puts_refused (e ∙ told) (λ z. absurd (omega (arith, ap (λ (x : Told). x.number) told ∙ z))) same_size))
                where
                  told : tell 54 (line_of t head) (line_of t head) ≡ over 54 (line_of t head) (ltb book_limit (at + length (section_bytes section)))
                  told = over-told 54 (line_of t head) book_limit (at + length (section_bytes section)) (omega (arith, h, whole.ends))

              -- nothing is refused
              pub section_put : (end_in sets) ≤ book_limit → Made o q sets
              section_put h =
                  late _
                  (puts_next told_bad right
                  record {
                    tells =
                        told_bad
                        ∙ none_bad t (line_of t head) (statements t) ss (names_of (settled ss)) (ap (λ (x : Told). x.number) (sym told_bad) ∙ right)
                        ∙ over-not 54 (line_of t head) book_limit (at + length (section_bytes section)) (omega (arith, h, whole.ends));
                    wrote = λ z. whole;
                    length = same_size;
                  })

-- what was made of the cells that settling left was made of the statements that were settled
module _ (t : List ℕ) (cells : List Cell) (ss : List Statement) (e : map (noted t) cells ≡ settled ss) where
  pub lasting_rules : (n : ℕ) → CountsRules (map (noted t) cells) n → CountsRules (settled ss) n
  lasting_rules n c = subst (λ (l : List Statement). CountsRules l n) e c

  pub lasting_names : names_of (map (noted t) cells) ≡ names_of (settled ss)
  lasting_names = ap names_of e

  pub lasting_stray : (line : ℕ) (names : List (List ℕ)) → first_stray t line names (map (noted t) cells) ≡ first_stray t line names ss
  lasting_stray line names = ap (first_stray t line names) e ∙ settled_stray t line names ss

  pub lasting_front : (head rules : ℕ) (names : Names) {o p : List ℕ} {at r : ℕ}
      → Wrote o at (text_bytes (get_or (words_from t head) 1 []) ++ (two_bytes_of rules ++ (names.count ∷ spell_all rule_bytes (rules_of (names_in t names) (map (noted t) cells))))) p r
      → Wrote o at (text_bytes (get_or (words_from t head) 1 []) ++ (two_bytes_of rules ++ (names.count ∷ spell_all rule_bytes (rules_of (names_in t names) (settled ss))))) p r
  lasting_front head rules names w =
      wrote_as w (ap (λ (l : List Statement). text_bytes (get_or (words_from t head) 1 []) ++ (two_bytes_of rules ++ (names.count ∷ spell_all rule_bytes (rules_of (names_in t names) l)))) e)

  pub lasting_sets : (line : ℕ) (every : List Statement) (names : List (List ℕ)) {o p : List ℕ} {at : ℕ} {r : Result ℕ Fault}
      → Puts (first_bad_set t line every (map (noted t) cells) names) (spell_all set_bytes (map (held every (map (noted t) cells)) names)) o at p r
      → Puts (first_bad_set t line every ss names) (spell_all set_bytes (map (held every ss) names)) o at p r
  lasting_sets line every names put =
      record {
        tells = put.tells ∙ ap (λ (l : List Statement). first_bad_set t line every l names) e ∙ settled_bad every ss t line names;
        wrote = λ z. wrote_as (put.wrote z) (ap (spell_all set_bytes) (ap (λ (l : List Statement). map (held every l) names) e ∙ settled_sets every ss names));
        length = put.length;
      }

-- ---- a section, by where its statements begin
module _ (t : List ℕ) (head : ℕ) {start : ℕ} (e : start ≡ next_line t head) where
  abbrev after : List Statement
  after = left t (next_line t head)

  -- its statements with what they take over
  abbrev included : List Statement
  included = expand (statements t) (body after)

  -- made from row 46 on
  abbrev Section : ℕ → List ℕ → List ℕ → Result ℕ Fault → Type 0
  Section at o to r = Puts (section_told t (statements t) at (statement_at t head 0) after) (section_bytes (section_of (statements t) (statement_at t head 0) after)) o at to r

  -- made from row 47 on, by those statements
  abbrev Checked : List Statement → ℕ → List ℕ → List ℕ → Result ℕ Fault → Type 0
  Checked ss at o to r =
      Puts
      (firstly (first_rule_fault t (statements t) (line_of t head) [] ss) (sizes_told t (statements t) at (line_of t head) (contents_of (statements t) (get_or (words_from t head) 1 []) ss) ss))
      (section_bytes (contents_of (statements t) (get_or (words_from t head) 1 []) ss))
      o
      at
      to
      r

  module _ {cells : List Cell} {count : ℕ} (holds : Holds t cells count (expand (statements t) (body_from t start))) where
    holds-all : Holds t cells count included
    holds-all = subst (λ (n : ℕ). Holds t cells count (expand (statements t) (body_from t n))) e holds

    pub cells_ready : count ≤ statement_limit → each sound (statements t) ≡ true → each sound (statement_at t head 0 ∷ after) ≡ true → each ready (map (noted t) (take count cells)) ≡ true
    unfolding left
    cells_ready few every own =
        ap (each ready) (holds-all.exact few)
        ∙ expand-ready (statements t) (body after) every (each-body sound after (and_both (sound (statement_at t head 0)) (each sound after) own).1) (each-body plainly after (statements-plain _ _))

  module _ {twice : Told} (used : twice ≡ used_twice t (line_of t head) (left t start) (body_from t start)) where
    used_is : twice ≡ used_twice t (line_of t head) after (body after)
    used_is = used ∙ ap (λ (n : ℕ). used_twice t (line_of t head) (left t n) (body_from t n)) e

    pub twice_told : {at : ℕ} {o : List ℕ} {r : Result ℕ Fault} → (twice.number ≡ 0 → ⊥) → told_in r ≡ twice → Section at o o r
    unfolding section_told
    twice_told h f = puts_first used_is _ h f refl

    module _ (once : twice.number ≡ 0) {cells : List Cell} {count : ℕ} (holds : Holds t cells count (expand (statements t) (body_from t start))) where
      pub statements_many : {at : ℕ} {o : List ℕ} {r : Result ℕ Fault} → statement_limit < count → told_in r ≡ tell 56 (line_of t head) (line_of t head) → Section at o o r
      unfolding section_told
      statements_many h f =
          puts_next used_is once
          (puts_first (over-told 56 (line_of t head) statement_limit (length included) ((holds-all holds).over h)) _ (λ z. absurd (omega (arith, z))) f refl)

      pub section-made : {at : ℕ} {o to : List ℕ} {r : Result ℕ Fault} → count ≤ statement_limit → Checked (map (noted t) (take count cells)) at o to r → Section at o to r
      unfolding section_told
      section-made {at} {o} {to} {r} few p =
          let exact = (holds-all holds).exact few in
          let size : length included ≤ statement_limit = omega (arith, few, ap length exact, length-map (take count cells) (noted t), length-take count cells) in
          puts_next used_is once
          (puts_next (over-not 56 (line_of t head) statement_limit (length included) size) refl
          (subst (λ (ss : List Statement). Checked ss at o to r) exact p))

-- the key of a section fits a byte with its length
pub key-short : (s : Statement) → says a_section s ≡ true → sound s ≡ true → length (word s 1) ≤ 255
key-short s v h =
    fits-short (word s 1) (subst (λ (k : ℕ). key_right k (word s 1) ≡ true) (eqb-true (verb s) a_section v) (sounds s h).key)
