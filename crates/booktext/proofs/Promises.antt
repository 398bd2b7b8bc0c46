-- What compiling a text promises. Assumes nothing.
use mathlib.Core.Path.{◌≡◌, refl, sym, ap, ap₂, ◌∙◌}
use mathlib.Core.Bool.{Bool, true, false, cond, ◌&&◌, ◌||◌}
use mathlib.Core.List.{List, [], ◌∷◌, ◌++◌, map, map-append}
use Prim.Native.Nat.{ℕ, ◌+◌, ◌*◌, ◌/◌, ◌%◌, ◌≤◌, ◌<◌}
use native.Mathlib.Omega.{arith}
use lib.Dec.{leb}
use lib.Arith.{digits_div, digits_mod}
use lib.ListN.{length, get_or, drop}
use borrow.Author.Tests.{le-leb, leb-true}
use Rattle.hl7.specs.Bytes.{within, among, same}
use Rattle.hl7.proofs.Comparing.{and_both, same_self}
use Rattle.grade.specs.Book.{Contents, distinct, keys, malformed, other_version, decoded}
use Rattle.grade.specs.Encoding.{each, spell_all, section_fits, section_bytes, book_bytes, well_formed}
use Rattle.grade.specs.Limits.{section_limit, book_limit, field_limit, component_limit}
use Rattle.grade.specs.Rule.{counted, first_field, place_fits}
use Rattle.grade.specs.declared.rule.Place.{Place}
use Rattle.grade.specs.declared.rule.Rule.{Rule}
use Rattle.grade.proofs.Decoded.{decodes}
use Rattle.booktext.specs.Lines.{Statement, word, says, makes_rule, statements, lines, a_common, a_use, a_severity, a_bound, a_drop, a_less}
use Rattle.booktext.specs.Meaning.{under, give, taken, expand}
use Rattle.booktext.specs.Changes.{spot_number, spot_of, says_of, bind, amend, amended, dropped, settled_as, settled, names_code, lessened, kept, added_by, added}
use Rattle.booktext.specs.Contents.{rules_of, pinned, named, made, with_names, names_of, codes_of, held, contents_of, sections_in, meaning}
use Rattle.booktext.specs.Faults.{firstly, first_fault}
use Rattle.booktext.specs.Refusals.{bytes_told, first_name_fault, sections_told, named_told, refusal, compiled, beginning}
use Rattle.booktext.proofs.Faulting.{sound-all}
use Rattle.booktext.proofs.Including.{plainly, statements-plain}
use Rattle.booktext.proofs.Forming.{firstly_both, names-passed, Rising, statements_rise, keys_differ, sizes_fit, sections_fit}

-- ---- never 7

formed : (cs : List Contents) → 1 ≤ length cs → length cs ≤ section_limit → each section_fits cs ≡ true → distinct (keys cs) ≡ true → beginning + length (spell_all section_bytes cs) ≤ book_limit → well_formed cs ≡ true
unfolding well_formed book_bytes
formed cs some few fit differ short =
    rw (le-leb 1 (length cs) some, le-leb (length cs) section_limit few, fit, differ) (le-leb (length (book_bytes cs)) book_limit (omega (arith, short)))

statements-are : (t : List ℕ) → (each plainly (statements t) ≡ true) × Rising 0 (statements t)
unfolding statements
statements-are t = (statements-plain 0 (lines t), statements_rise 0 (lines t))

-- a text that is not refused makes a well-formed book
pub never_7 : (t : List ℕ) → (refusal t).number ≡ 0 → well_formed (meaning t) ≡ true
unfolding refusal meaning
never_7 t h =
    let all = statements t in
    let a = firstly_both (bytes_told t) (firstly (first_fault t 0 all) (named_told t)) h in
    let b = firstly_both (first_fault t 0 all) (named_told t) a.1 in
    let c = firstly_both (first_name_fault t all 0 all) (sections_told t all beginning all) b.1 in
    let right = sound-all t 0 all b.0 in
    let are = statements-are t in
    let passed = names-passed t all 0 all (omega arith) c.0 in
    formed (sections_in all all) (omega (arith, passed.some)) (omega (arith, passed.few))
    (sections_fit t all beginning all right right are.0 c.1)
    (keys_differ all 0 all are.1 passed.firsts)
    (sizes_fit t all beginning all (omega arith) c.1)

-- so the relay opens it, and finds the sections that the text means
pub opens : (t : List ℕ) → (refusal t).number ≡ 0 → (malformed (compiled t) ≡ false) × (other_version (compiled t) ≡ false) × (decoded (compiled t) ≡ meaning t)
unfolding compiled
opens t h = decodes (meaning t) (never_7 t h)

-- ---- own page

-- a statement without its position
abbrev pub still : Statement → Statement
still s = record { at = 0; words = s.words; given = s.given }

rules-still : (names : List (List ℕ)) (ss : List Statement) → rules_of names (map still ss) ≡ rules_of names ss
unfolding rules_of made
rules-still names [] = refl
rules-still names (s ∷ ss) = ap (λ (rules : List Rule). cond (makes_rule s) (made names s ∷ rules) rules) (rules-still names ss)

pinned-still : (ss : List Statement) → pinned (map still ss) ≡ pinned ss
unfolding pinned
pinned-still [] = refl
pinned-still (s ∷ ss) = rw (pinned-still ss) refl

named-still : (ss : List Statement) → named (map still ss) ≡ named ss
unfolding named
named-still [] = refl
named-still (s ∷ ss) = rw (named-still ss) refl

names-still : (ss : List Statement) → names_of (map still ss) ≡ names_of ss
unfolding names_of
names-still ss = ap₂ (λ (a b : List (List ℕ)). with_names [] (a ++ b)) (pinned-still ss) (named-still ss)

-- what later statements change does not hang on positions either
amend-still : (spot : ℕ) (s x : Statement) → amend spot (still s) (still x) ≡ still (amend spot s x)
unfolding spot_of
amend-still spot s x = by (says_of a_severity spot x) (says_of a_bound spot x)
  where
    by : (a b : Bool) → cond a (give (get_or (word x 3) 0 0) (still s)) (cond b (bind (drop 3 x.words) (still s)) (still s)) ≡ still (cond a (give (get_or (word x 3) 0 0) s) (cond b (bind (drop 3 x.words) s) s))
    by true b = refl
    by false true = refl
    by false false = refl

amended-still : (spot : ℕ) (s : Statement) (ss : List Statement) → amended spot (still s) (map still ss) ≡ still (amended spot s ss)
unfolding amended
amended-still spot s [] = refl
amended-still spot s (x ∷ ss) = ap (λ (y : Statement). amended spot y (map still ss)) (amend-still spot s x) ∙ amended-still spot (amend spot s x) ss

dropped-still : (spot : ℕ) (ss : List Statement) → dropped spot (map still ss) ≡ dropped spot ss
unfolding dropped spot_of
dropped-still spot [] = refl
dropped-still spot (x ∷ ss) = ap (λ (b : Bool). says_of a_drop spot x || b) (dropped-still spot ss)

settled-still : (ss : List Statement) → settled (map still ss) ≡ map still (settled ss)
unfolding settled settled_as spot_of
settled-still [] = refl
settled-still (s ∷ ss) = ap₂ ◌++◌ one (settled-still ss) ∙ sym (map-append still (settled_as s ss) (settled ss))
  where
    by : (a b : Bool) → cond a (cond b [] (still (amended (spot_of s) s ss) ∷ [])) (still s ∷ []) ≡ map still (cond a (cond b [] (amended (spot_of s) s ss ∷ [])) (s ∷ []))
    by true true = refl
    by true false = refl
    by false b = refl

    one : settled_as (still s) (map still ss) ≡ map still (settled_as s ss)
    one =
        ap₂ (λ (b : Bool) (y : Statement). cond (makes_rule s) (cond b [] (y ∷ [])) (still s ∷ [])) (dropped-still (spot_of s) ss) (amended-still (spot_of s) s ss)
        ∙ by (makes_rule s) (dropped (spot_of s) ss)

lessened-still : (name c : List ℕ) (ss : List Statement) → lessened name c (map still ss) ≡ lessened name c ss
unfolding lessened
lessened-still name c [] = refl
lessened-still name c (x ∷ ss) = ap (λ (b : Bool). names_code a_less name c x || b) (lessened-still name c ss)

kept-still : (name : List ℕ) (ss : List Statement) (cs : List (List ℕ)) → kept name (map still ss) cs ≡ kept name ss cs
unfolding kept
kept-still name ss [] = refl
kept-still name ss (c ∷ cs) = ap₂ (λ (b : Bool) (l : List (List ℕ)). cond b l (c ∷ l)) (lessened-still name c ss) (kept-still name ss cs)

added-still : (name : List ℕ) (ss : List Statement) → added name (map still ss) ≡ added name ss
unfolding added
added-still name [] = refl
added-still name (x ∷ ss) = ap₂ ◌++◌ (kept-still name ss (added_by name x)) (added-still name ss)

-- the names of the commons that it uses
unfoldable pub uses_of : List Statement → List (List ℕ)
uses_of [] = []
uses_of (s ∷ ss) = cond (says a_use s) (word s 1 ∷ uses_of ss) (uses_of ss)

give-still : (letter : ℕ) (ss : List Statement) → map still (map (give letter) ss) ≡ map (give letter) (map still ss)
give-still letter [] = refl
give-still letter (s ∷ ss) = ap (λ (l : List Statement). still (give letter s) ∷ l) (give-still letter ss)

or_later : (b : Bool) {c : Bool} → c ≡ true → (b || c) ≡ true
or_later true e = refl
or_later false e = e

map-held : {A : Type 0} (f g : List ℕ → A) (names : List (List ℕ)) → ((name : List ℕ) → among name names ≡ true → f name ≡ g name) → map f names ≡ map g names
unfolding among
map-held f g [] h = refl
map-held f g (name ∷ names) h = ap₂ ◌∷◌ (h name (rw (same_self name) refl)) (map-held f g names (λ x e. h x (or_later (same x name) e)))

-- two lists of all statements that agree on the commons which a section uses
abbrev Commons : (all other : List Statement) → List (List ℕ) → Type 0
Commons all other names = (name : List ℕ) → among name names ≡ true → map still (under a_common name all) ≡ map still (under a_common name other)

-- one statement of each, alike
taken-still : (all other : List Statement) (s z : Statement) → still s ≡ still z → (says a_use s ≡ true → map still (under a_common (word s 1) all) ≡ map still (under a_common (word s 1) other)) → map still (taken all s) ≡ map still (taken other z)
unfolding taken
taken-still all other s z e c = by (says a_use s) refl
  where
    -- what a use takes over, by its words
    brings : List Statement → Statement → List Statement
    brings here x = map still (cond (says a_use x) (map (give (get_or (word x 2) 0 0)) (under a_common (word x 1) here)) [])

    by : (b : Bool) → says a_use s ≡ b → map still (cond b (map (give (get_or (word s 2) 0 0)) (under a_common (word s 1) all)) []) ≡ brings other z
    by true u =
        let letter = get_or (word s 2) 0 0 in
        give-still letter (under a_common (word s 1) all) ∙ ap (map (give letter)) (c u) ∙ sym (give-still letter (under a_common (word s 1) other))
        ∙ sym (ap (λ (b : Bool). map still (cond b (map (give letter) (under a_common (word s 1) other)) [])) u) ∙ ap (brings other) e
    by false u = sym (ap (λ (b : Bool). map still (cond b (map (give (get_or (word s 2) 0 0)) (under a_common (word s 1) other)) [])) u) ∙ ap (brings other) e

expand-still : (all other own theirs : List Statement) → map still own ≡ map still theirs → Commons all other (uses_of own) → map still (expand all own) ≡ map still (expand other theirs)
unfolding expand uses_of among
expand-still all other [] [] e c = refl
expand-still all other [] (z ∷ zs) e c = absurd (omega (arith, ap length e))
expand-still all other (s ∷ ss) [] e c = absurd (omega (arith, ap length e))
expand-still all other (s ∷ ss) (z ∷ zs) e c =
    let head : still s ≡ still z = ap (λ (l : List Statement). get_or l 0 (still s)) e in
    let tail : map still ss ≡ map still zs = ap (drop 1) e in
    map-append still (s ∷ taken all s) (expand all ss)
    ∙ ap₂ ◌++◌ (ap₂ ◌∷◌ head (taken-still all other s z head (λ u. c (word s 1) (own_use u)))) (expand-still all other ss zs tail (λ name h. c name (later_use name h)))
    ∙ sym (map-append still (z ∷ taken other z) (expand other zs))
  where
    own_use : says a_use s ≡ true → among (word s 1) (cond (says a_use s) (word s 1 ∷ uses_of ss) (uses_of ss)) ≡ true
    own_use u = rw (u, same_self (word s 1)) refl

    later_use : (name : List ℕ) → among name (uses_of ss) ≡ true → among name (cond (says a_use s) (word s 1 ∷ uses_of ss) (uses_of ss)) ≡ true
    later_use name h = by (says a_use s)
      where
        by : (b : Bool) → among name (cond b (word s 1 ∷ uses_of ss) (uses_of ss)) ≡ true
        by true = or_later (same name (word s 1)) h
        by false = h

-- A section's contents depend only on its own statements, the commons that it uses and the sets that it names: not on where they stand, nor on anything else of the text
pub own_page : (all other own theirs : List Statement) (key : List ℕ) → map still own ≡ map still theirs → Commons all other (uses_of own)
    → ((name : List ℕ) → among name (names_of (settled (expand all own))) ≡ true → codes_of all name ≡ codes_of other name)
    → contents_of all key (expand all own) ≡ contents_of other key (expand other theirs)
unfolding contents_of held
own_page all other own theirs key e commons sets =
    let ss = expand all own in
    let zs = expand other theirs in
    let said : map still ss ≡ map still zs = expand-still all other own theirs e commons in
    let last : map still (settled ss) ≡ map still (settled zs) = sym (settled-still ss) ∙ ap settled said ∙ settled-still zs in
    let names : names_of (settled ss) ≡ names_of (settled zs) = sym (names-still (settled ss)) ∙ ap names_of last ∙ names-still (settled zs) in
    let codes : (name : List ℕ) → among name (names_of (settled ss)) ≡ true → held all ss name ≡ held other zs name =
    λ name h. ap₂ ◌++◌
    (sym (kept-still name ss (codes_of all name)) ∙ ap₂ (kept name) said (sets name h) ∙ kept-still name zs (codes_of other name))
    (sym (added-still name ss) ∙ ap (added name) said ∙ added-still name zs) in
    ap₂ (λ (rules : List Rule) (sets : List (List (List ℕ))). record { key = key; rules = rules; sets = sets })
    (ap (λ (n : List (List ℕ)). rules_of n (settled ss)) names
    ∙ sym (rules-still (names_of (settled zs)) (settled ss))
    ∙ ap (rules_of (names_of (settled zs))) last
    ∙ rules-still (names_of (settled zs)) (settled zs))
    (map-held (held all ss) (held other zs) (names_of (settled ss)) codes ∙ ap (map (held other zs)) names)

-- ---- place and kind as one number

-- a number in two parts, the second below a limit
parted : (n a b u v : ℕ) → u < n → v < n → a * n + u ≡ b * n + v → (a ≡ b) × (u ≡ v)
parted n a b u v h k e = (sym (digits_div a h) ∙ ap (λ (x : ℕ). x / n) e ∙ digits_div b k, sym (digits_mod a h) ∙ ap (λ (x : ℕ). x % n) e ∙ digits_mod b k)

place-small : (p : Place) → place_fits p ≡ true → (p.field < 100) × (p.component < 21)
unfolding place_fits
place-small p h =
    let all = and_both (counted p.segment && within (first_field p.segment) field_limit p.field) (leb p.component component_limit) h in
    let field = (and_both (counted p.segment) (within (first_field p.segment) field_limit p.field) all.0).1 in
    let few = leb-true p.field field_limit (and_both (leb (first_field p.segment) p.field) (leb p.field field_limit) field).1 in
    let short = leb-true p.component component_limit all.1 in
    (omega (arith, few), omega (arith, short))

-- two rules within their limits have the same number only where they have the same place and kind
pub spots-apart : (p q : Place) (k j : ℕ) → place_fits p ≡ true → place_fits q ≡ true → k < 7 → j < 7 → spot_number p k ≡ spot_number q j
    → (p.segment ≡ q.segment) × (p.field ≡ q.field) × (p.component ≡ q.component) × (k ≡ j)
spots-apart p q k j a b few less e =
    let own = place-small p a in
    let other = place-small q b in
    let kinds = parted 7 ((p.segment * 100 + p.field) * 21 + p.component) ((q.segment * 100 + q.field) * 21 + q.component) k j few less e in
    let components = parted 21 (p.segment * 100 + p.field) (q.segment * 100 + q.field) p.component q.component own.1 other.1 kinds.0 in
    let fields = parted 100 p.segment q.segment p.field q.field own.0 other.0 components.0 in
    (fields.0, fields.1, components.1, kinds.1)
