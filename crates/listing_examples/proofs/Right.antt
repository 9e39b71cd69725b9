-- Every example is right, by computing.
use mathlib.Core.Path.{◌≡◌, refl}
use mathlib.Core.List.{[], ◌∷◌}
use lib.IntN.{pos, negsuc}
use Rattle.numbers.specs.Bytes.{same}
use Rattle.search.specs.Search.{first_where, all}
use Rattle.numbers.specs.Ascii.{ascii}
use Rattle.text.specs.Decimal.{value_from, decimal, decimal_within, signed_decimal}
use Rattle.text.specs.Lines.{fields, line}
use Rattle.fields.specs.Fields.{part, fields_from, fields_of}
use Rattle.fields.specs.Numbers.{natural_of, integer_of}
use Rattle.command.specs.Command.{init_of, add_of, end_of, tick_of, flush_of, put_of, carry_of, read_of, cut_of, left_of, command_at, command_of}
use Rattle.command.specs.declared.Command.TheVariants.{Init, Add, End, Tick, Flush, Put, Carry, Read, Cut, Left, Unknown}
use Rattle.listing.specs.Listing.{reply_line}
use Rattle.listing.specs.declared.Reply.TheVariants.{Unknown as Unanswered}
use Rattle.listing.specs.declared.Results.TheVariants.{Empty, Absent, One, Two, Three, Payloads}
use Rattle.listing_examples.specs.Examples.{accepted, refused, EveryExample}

read-0 : command_of (ascii "init rig7 60000 100") ≡ (Init (part 5 4) (pos 60000) (pos 100))
unfolding same first_where all value_from fields_from fields_of natural_of integer_of init_of add_of end_of tick_of flush_of put_of carry_of read_of cut_of left_of command_at command_of
read-0 = refl

shown-0 : reply_line 0 (accepted (Two (pos 1000) (pos 0))) 53 0 ([]) ≡ (ascii "init\t0\t53\t0\t1000\t0\n")
unfolding decimal decimal_within signed_decimal fields line reply_line
shown-0 = refl

read-1 : command_of (ascii "flush") ≡ Flush
unfolding same first_where all value_from fields_from fields_of natural_of integer_of init_of add_of end_of tick_of flush_of put_of carry_of read_of cut_of left_of command_at command_of
read-1 = refl

shown-1 : reply_line 4 (accepted Empty) 53 53 ([]) ≡ (ascii "flush\t0\t53\t53\n")
unfolding decimal decimal_within signed_decimal fields line reply_line
shown-1 = refl

read-2 : command_of (ascii "add r 1 0 257 110") ≡ (Add (part 4 1) (pos 1) (pos 0) 257 (pos 110))
unfolding same first_where all value_from fields_from fields_of natural_of integer_of init_of add_of end_of tick_of flush_of put_of carry_of read_of cut_of left_of command_at command_of
read-2 = refl

shown-2 : reply_line 1 (accepted Empty) 134 53 ([]) ≡ (ascii "add\t0\t134\t53\n")
unfolding decimal decimal_within signed_decimal fields line reply_line
shown-2 = refl

read-3 : command_of (ascii "put r 1 0 8 0 502") ≡ (Put (part 4 1) (pos 1) (pos 0) 8 (pos 0) 502)
unfolding same first_where all value_from fields_from fields_of natural_of integer_of init_of add_of end_of tick_of flush_of put_of carry_of read_of cut_of left_of command_at command_of
read-3 = refl

shown-3 : reply_line 5 (accepted (One (pos 0))) 134 134 ([]) ≡ (ascii "put\t0\t134\t134\t0\n")
unfolding decimal decimal_within signed_decimal fields line reply_line
shown-3 = refl

read-4 : command_of (ascii "end r 1 0 0 120") ≡ (End (part 4 1) (pos 1) (pos 0) 0 (pos 120))
unfolding same first_where all value_from fields_from fields_of natural_of integer_of init_of add_of end_of tick_of flush_of put_of carry_of read_of cut_of left_of command_at command_of
read-4 = refl

shown-4 : reply_line 2 (accepted Empty) 215 134 ([]) ≡ (ascii "end\t0\t215\t134\n")
unfolding decimal decimal_within signed_decimal fields line reply_line
shown-4 = refl

read-5 : command_of (ascii "carry 257") ≡ (Carry 257)
unfolding same first_where all value_from fields_from fields_of natural_of integer_of init_of add_of end_of tick_of flush_of put_of carry_of read_of cut_of left_of command_at command_of
read-5 = refl

shown-5 : reply_line 6 (accepted Absent) 215 134 ([]) ≡ (ascii "carry\t0\t215\t134\t-\n")
unfolding decimal decimal_within signed_decimal fields line reply_line
shown-5 = refl

read-6 : command_of (ascii "carry 257") ≡ (Carry 257)
unfolding same first_where all value_from fields_from fields_of natural_of integer_of init_of add_of end_of tick_of flush_of put_of carry_of read_of cut_of left_of command_at command_of
read-6 = refl

shown-6 : reply_line 6 (accepted (Three (pos 0) (pos 8) (pos 0))) 268 215 ([]) ≡ (ascii "carry\t0\t268\t215\t0\t8\t0\n")
unfolding decimal decimal_within signed_decimal fields line reply_line
shown-6 = refl

read-7 : command_of (ascii "cut 0") ≡ (Cut 0)
unfolding same first_where all value_from fields_from fields_of natural_of integer_of init_of add_of end_of tick_of flush_of put_of carry_of read_of cut_of left_of command_at command_of
read-7 = refl

shown-7 : reply_line 8 (accepted Empty) 215 215 ([]) ≡ (ascii "cut\t0\t215\t215\n")
unfolding decimal decimal_within signed_decimal fields line reply_line
shown-7 = refl

read-8 : command_of (ascii "read 8") ≡ (Read 8)
unfolding same first_where all value_from fields_from fields_of natural_of integer_of init_of add_of end_of tick_of flush_of put_of carry_of read_of cut_of left_of command_at command_of
read-8 = refl

shown-8 : reply_line 7 (accepted (Payloads 1)) 268 215 (502 ∷ []) ≡ (ascii "read\t0\t268\t215\t502\n")
unfolding decimal decimal_within signed_decimal fields line reply_line
shown-8 = refl

read-9 : command_of (ascii "read 8") ≡ (Read 8)
unfolding same first_where all value_from fields_from fields_of natural_of integer_of init_of add_of end_of tick_of flush_of put_of carry_of read_of cut_of left_of command_at command_of
read-9 = refl

shown-9 : reply_line 7 (accepted (Payloads 0)) 268 215 (502 ∷ []) ≡ (ascii "read\t0\t268\t215\t-\n")
unfolding decimal decimal_within signed_decimal fields line reply_line
shown-9 = refl

read-10 : command_of (ascii "tick -1") ≡ (Tick (negsuc 0))
unfolding same first_where all value_from fields_from fields_of natural_of integer_of init_of add_of end_of tick_of flush_of put_of carry_of read_of cut_of left_of command_at command_of
read-10 = refl

shown-10 : reply_line 3 (accepted (One (pos 0))) 268 215 ([]) ≡ (ascii "tick\t0\t268\t215\t0\n")
unfolding decimal decimal_within signed_decimal fields line reply_line
shown-10 = refl

read-11 : command_of (ascii "add  -0 -32768 007 0") ≡ (Add (part 4 0) (pos 0) (negsuc 32767) 7 (pos 0))
unfolding same first_where all value_from fields_from fields_of natural_of integer_of init_of add_of end_of tick_of flush_of put_of carry_of read_of cut_of left_of command_at command_of
read-11 = refl

shown-11 : reply_line 1 (refused 1) 268 215 ([]) ≡ (ascii "add\t1\t268\t215\n")
unfolding decimal decimal_within signed_decimal fields line reply_line
shown-11 = refl

read-12 : command_of (ascii "left 0") ≡ (Left 0)
unfolding same first_where all value_from fields_from fields_of natural_of integer_of init_of add_of end_of tick_of flush_of put_of carry_of read_of cut_of left_of command_at command_of
read-12 = refl

shown-12 : reply_line 9 (accepted (One (pos 2))) 215 134 ([]) ≡ (ascii "left\t0\t215\t134\t2\n")
unfolding decimal decimal_within signed_decimal fields line reply_line
shown-12 = refl

read-13 : command_of (ascii "add r 1 32768 1 1") ≡ Unknown
unfolding same first_where all value_from fields_from fields_of natural_of integer_of init_of add_of end_of tick_of flush_of put_of carry_of read_of cut_of left_of command_at command_of
read-13 = refl

shown-13 : reply_line 10 Unanswered 268 215 ([]) ≡ (ascii "?\t-\t268\t215\n")
unfolding decimal decimal_within signed_decimal fields line reply_line
shown-13 = refl

read-14 : command_of (ascii "cut -1") ≡ Unknown
unfolding same first_where all value_from fields_from fields_of natural_of integer_of init_of add_of end_of tick_of flush_of put_of carry_of read_of cut_of left_of command_at command_of
read-14 = refl

shown-14 : reply_line 10 Unanswered 268 215 ([]) ≡ (ascii "?\t-\t268\t215\n")
unfolding decimal decimal_within signed_decimal fields line reply_line
shown-14 = refl

read-15 : command_of (ascii "flush ") ≡ Unknown
unfolding same first_where all value_from fields_from fields_of natural_of integer_of init_of add_of end_of tick_of flush_of put_of carry_of read_of cut_of left_of command_at command_of
read-15 = refl

shown-15 : reply_line 10 Unanswered 268 215 ([]) ≡ (ascii "?\t-\t268\t215\n")
unfolding decimal decimal_within signed_decimal fields line reply_line
shown-15 = refl

read-16 : command_of (ascii "") ≡ Unknown
unfolding same first_where all value_from fields_from fields_of natural_of integer_of init_of add_of end_of tick_of flush_of put_of carry_of read_of cut_of left_of command_at command_of
read-16 = refl

shown-16 : reply_line 10 Unanswered 0 0 ([]) ≡ (ascii "?\t-\t0\t0\n")
unfolding decimal decimal_within signed_decimal fields line reply_line
shown-16 = refl

pub every-example : EveryExample
every-example = ((read-0, shown-0), ((read-1, shown-1), ((read-2, shown-2), ((read-3, shown-3), ((read-4, shown-4), ((read-5, shown-5), ((read-6, shown-6), ((read-7, shown-7), ((read-8, shown-8), ((read-9, shown-9), ((read-10, shown-10), ((read-11, shown-11), ((read-12, shown-12), ((read-13, shown-13), ((read-14, shown-14), ((read-15, shown-15), ((read-16, shown-16), tt)))))))))))))))))
