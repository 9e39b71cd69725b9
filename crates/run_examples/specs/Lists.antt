-- What a list can hold: of each argument the least and the greatest that its type has, and one past it, which no call has.
use Rattle.std.specs.Prelude.{ℕ, List, [], ◌∷◌, ℤ, pos, negsuc}
use Rattle.coordinator.specs.Calls.{init_call, add_call, end_call, tick_call, flush_call, ack_call}
use Rattle.writable_logs.specs.Writer.{WriterItem, call as writer_call, restart}
use Rattle.runs.specs.World.{own, another, Item, call, call_order, call_produce, call_read, deliver, acknowledge, cut, reopen}

-- ---- the greatest and the least of each type

abbrev pub most16 : ℤ
most16 = pos 32767

abbrev pub least16 : ℤ
least16 = negsuc 32767

abbrev pub most32 : ℤ
most32 = pos 2147483647

abbrev pub least32 : ℤ
least32 = negsuc 2147483647

abbrev pub most64 : ℤ
most64 = pos 9223372036854775807

abbrev pub least64 : ℤ
least64 = negsuc 9223372036854775807

abbrev pub most_word : ℕ
most_word = 18446744073709551615

-- the next ones
abbrev pub past16 : ℤ
past16 = pos 32768

abbrev pub past32 : ℤ
past32 = pos 2147483648

abbrev pub past64 : ℤ
past64 = pos 9223372036854775808

abbrev pub past_word : ℕ
past_word = 18446744073709551616

-- ---- items of a run

-- "with any arguments"
abbrev pub held_items : List Item
held_items =
    call own (init_call [] most32 most64) ∷
    call (another []) (init_call [] least32 least64) ∷
    call own (add_call [] most64 most16 most_word most64) ∷
    call (another []) (add_call [] least64 least16 0 least64) ∷
    call own (end_call [] most64 most16 past_word most64) ∷
    call (another []) (end_call [] least64 least16 0 least64) ∷
    call own (tick_call most64) ∷
    call (another []) (tick_call least64) ∷
    call own (flush_call past_word) ∷
    call_order most_word ∷
    call_order 0 ∷
    call_produce own past_word [] most64 most16 past_word most32 most_word ∷
    call_produce (another []) 0 [] least64 least16 0 least32 0 ∷
    call_read own past_word past_word [] ∷
    call_read (another []) 0 0 [] ∷
    deliver own past_word ∷
    deliver (another []) 0 ∷
    acknowledge own past_word ∷
    acknowledge (another []) 0 ∷
    cut past_word ∷
    reopen most32 most64 most64 ∷
    reopen least32 least64 least64 ∷
    []

-- "Marker and Ack as 3 has them carried": no Ack; and no argument of another type
abbrev pub barred_items : List Item
barred_items =
    call own (ack_call 0 (pos 0) (pos 0) 0) ∷
    call own (init_call [] past32 (pos 0)) ∷
    call own (init_call [] (pos 0) past64) ∷
    call own (add_call [] past64 (pos 0) 0 (pos 0)) ∷
    call own (add_call [] (pos 0) past16 0 (pos 0)) ∷
    call own (add_call [] (pos 0) (pos 0) past_word (pos 0)) ∷
    call own (add_call [] (pos 0) (pos 0) 0 past64) ∷
    call own (end_call [] past64 (pos 0) 0 (pos 0)) ∷
    call own (end_call [] (pos 0) past16 0 (pos 0)) ∷
    call own (end_call [] (pos 0) (pos 0) 0 past64) ∷
    call own (tick_call past64) ∷
    call_order past_word ∷
    call_produce own 0 [] past64 (pos 0) 0 (pos 0) 0 ∷
    call_produce own 0 [] (pos 0) past16 0 (pos 0) 0 ∷
    call_produce own 0 [] (pos 0) (pos 0) 0 past32 0 ∷
    call_produce own 0 [] (pos 0) (pos 0) 0 (pos 0) past_word ∷
    reopen past32 (pos 0) (pos 0) ∷
    reopen (pos 0) past64 (pos 0) ∷
    reopen (pos 0) (pos 0) past64 ∷
    []

-- ---- items of a writer, which may call Ack without an order

abbrev pub writer_items_held : List WriterItem
writer_items_held =
    writer_call (ack_call past_word past64 past16 past_word) ∷
    writer_call (tick_call least64) ∷
    restart past_word most32 most64 most64 ∷
    restart 0 least32 least64 least64 ∷
    []

abbrev pub writer_items_barred : List WriterItem
writer_items_barred = writer_call (tick_call past64) ∷ restart 0 past32 (pos 0) (pos 0) ∷ restart 0 (pos 0) past64 (pos 0) ∷ restart 0 (pos 0) (pos 0) past64 ∷ []
