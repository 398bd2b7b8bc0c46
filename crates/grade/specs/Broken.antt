-- To be believed. When a value breaks a rule: a yes or no about the rule and that value. Assumes nothing.
use Rattle.std.specs.Prelude.{ℕ, ◌-◌, Bool, true, false, cond, not, ◌&&◌, ◌||◌, List, [], ◌∷◌, get_or, eqb}
use Rattle.hl7.specs.Text.{bytes}
use Rattle.hl7.specs.Bytes.{among}
use Rattle.grade.specs.Values.{has_length, is_number, is_date, is_time}
use Rattle.grade.specs.declared.rule.Kind.{Kind}
use Rattle.grade.specs.declared.rule.Kind.TheVariants.{Required, Length, Number, Date, Time, Code}
use Rattle.grade.specs.declared.rule.Rule.{Rule}

-- what counts as a value: neither no bytes at all nor exactly two double quotes, by which HL7 2.5.1 asks to delete what is held
unfoldable pub is_value : List ℕ → Bool
is_value v = not (among v ([] ∷ bytes "\"\"" ∷ []))

abbrev pub is_required : Kind → Bool
is_required Required = true
is_required (Length low high) = false
is_required Number = false
is_required Date = false
is_required (Time digits) = false
is_required (Code set) = false

-- what counts as a value fits a kind, given the codes of the kind's set: any fits REQUIRED
abbrev pub fits : Kind → List (List ℕ) → List ℕ → Bool
fits Required codes value = true
fits (Length low high) codes value = has_length low high value
fits Number codes value = is_number value
fits Date codes value = is_date value
fits (Time digits) codes value = is_time digits value
fits (Code set) codes value = among value codes

-- what does not count as a value breaks REQUIRED and nothing else; what does breaks the kinds that it does not fit
unfoldable pub broken : Kind → List (List ℕ) → List ℕ → Bool
broken kind codes value = cond (is_value value) (not (fits kind codes value)) (is_required kind)

-- REQUIRED is about the first repetition alone, the other kinds about each; r counts from 0
unfoldable pub judges : Kind → ℕ → Bool
judges kind r = not (is_required kind) || eqb r 0

-- the codes of a kind's set, where sets count from 1; a kind without a set has none
abbrev pub codes_of : List (List (List ℕ)) → Kind → List (List ℕ)
codes_of sets Required = []
codes_of sets (Length low high) = []
codes_of sets Number = []
codes_of sets Date = []
codes_of sets (Time digits) = []
codes_of sets (Code set) = get_or sets (set - 1) []

-- a rule is broken by the value at repetition r
unfoldable pub breaks_rule : List (List (List ℕ)) → Rule → ℕ → List ℕ → Bool
breaks_rule sets rule r value = judges rule.kind r && broken rule.kind (codes_of sets rule.kind) value
