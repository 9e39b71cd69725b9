-- The examples of lines hold, by computation.
use mathlib.Core.Path.{◌≡◌, refl}
use mathlib.Core.List.{map}
use Rattle.numbers.specs.Bytes.{same}
use Rattle.search.specs.Search.{all}
use Rattle.text.specs.Decimal.{value_from, decimal, decimal_within}
use Rattle.text.specs.Lines.{fields, line}
use Rattle.fields.specs.Fields.{fields_from, fields_of}
use Rattle.fields.specs.Numbers.{natural_of, integer_of}
use Rattle.race.specs.Search.{can_serve, can_force}
use Rattle.race_lines.specs.Lines.{request_of, answer_line}
use Rattle.race_lines.specs.Examples.{Asked, asked, requests, Answered, answered, answers}

pub requests-hold : map (λ (x : Asked). asked x.text (request_of x.text)) requests ≡ requests
unfolding same all value_from fields_from fields_of natural_of integer_of request_of
requests-hold = refl

pub answers-hold : map (λ (x : Answered). answered x.request (answer_line x.request)) answers ≡ answers
unfolding decimal decimal_within fields line can_serve can_force
answers-hold = refl
