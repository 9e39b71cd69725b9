-- Lists hold every call with arguments of its types, and no other.
use mathlib.Core.Path.{◌≡◌, refl}
use mathlib.Core.Bool.{true, not}
use Rattle.search.specs.Search.{all}
use Rattle.writable_logs.specs.Writer.{WriterItem, writer_typed}
use Rattle.runs.specs.World.{Item, in_lists}
use Rattle.run_examples.specs.Lists.{held_items, barred_items, writer_items_held, writer_items_barred}

pub held-in-lists : all in_lists held_items ≡ true
unfolding all
held-in-lists = refl

pub barred-from-lists : all (λ (x : Item). not (in_lists x)) barred_items ≡ true
unfolding all
barred-from-lists = refl

pub held-by-writer : all writer_typed writer_items_held ≡ true
unfolding all
held-by-writer = refl

pub barred-from-writer : all (λ (x : WriterItem). not (writer_typed x)) writer_items_barred ≡ true
unfolding all
barred-from-writer = refl
