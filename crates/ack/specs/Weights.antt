-- Inner: only contracts inside the crates use these names; nothing here has to be believed.
-- What records weigh. Assumes nothing.
use Rattle.std.specs.Prelude.{◌+◌, min, true, false, ◌&&◌, ◌||◌, List, [], ◌∷◌, length}
use Rattle.hl7.specs.Place.{delims_of}
use Rattle.grade.specs.Deciding.{is_header, is_fault}
use Rattle.grade.specs.Range.{in_range}
use Rattle.grade.specs.declared.finding.Finding.{Finding}
use Rattle.ack.specs.Layout.{err_line, ended}
use Rattle.ack.specs.Splice.{limit}
use Rattle.ack.specs.declared.write.Weight.{Weight}

abbrev pub weightless : Weight
weightless = record { sound = true; length = 0; header = false; fault = false }

-- with one record more; an ERR's length does not depend on the delimiters
abbrev pub weighed_by : Weight → Finding → Weight
weighed_by w f =
    record {
      sound = w.sound && in_range f;
      length = min (w.length + length (ended (err_line (delims_of []) f))) limit;
      header = w.header || is_header f;
      fault = w.fault || is_fault f;
    }

unfoldable pub weigh_all : Weight → List Finding → Weight
weigh_all w [] = w
weigh_all w (f ∷ findings) = weigh_all (weighed_by w f) findings
