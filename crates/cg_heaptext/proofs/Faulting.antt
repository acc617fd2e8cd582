-- The first of all faults.
use Rattle.std.proofs.Common.{◌⊎◌, inl, inr, arith}
use Rattle.std.specs.Prelude.{Option}
use Rattle.cg_base.specs.declared.place.Place.{Place}
use Rattle.cg_base.specs.Types.{Tau}
use Rattle.cg_heaptext_contents.specs.Placings.{IsOverUnread}
use Rattle.cg_heaptext_def.specs.HeapText.{IsOver, over_type, over_word, entry_out, mention_out, read_events}
use Rattle.cg_heaptext_def.specs.Trees.{Heap}
use Rattle.cg_heaptext_judge_def.specs.Judging.{IsOverIn}
use Rattle.cg_heaptext_mentions.specs.Judged as judged
use Rattle.cg_heaptext_mentions.specs.Judged.{IsOut}
use Rattle.cg_heaptext_places.proofs.Noting.{joined_least}
use Rattle.cg_heaptext_places.specs.Noted.{IsLeast, joined}

module _ (h : Heap) (t : Tau) where
  -- a number that is read, or one that nobody reads
  abbrev IsNumber : Place → Type 0
  IsNumber place = IsOverIn (read_events h t) place ⊎ IsOverUnread h t place

  number_over : (place : Place) → IsNumber place → IsOver h t place
  number_over place (inl o) = over_type o.0 o.1 o.2 o.3 o.4 o.5
  number_over place (inr o) = over_word o.i o.above.0 o.entry o.above.1 o.there o.unread o.above.2 (omega (arith, o.above.3)) o.above.4

  address_over : (place : Place) → IsOut h place → IsOver h t place
  address_over place (judged.entry_out i e there out at) = entry_out i e there out at
  address_over place (judged.mention_out i m there out at) = mention_out i m there out at

  over_either : (place : Place) → IsOver h t place → IsNumber place ⊎ IsOut h place
  over_either place (over_type i bound n there passes at) = inl (inl (i, bound, n, there, passes, at))
  over_either place (over_word i j e n there unread number passes at) = inl (inr (record { i = i; entry = e; there = there; unread = unread; above = (j, n, number, omega (arith, passes), at) }))
  over_either place (entry_out i e there out at) = inr (judged.entry_out i e there out at)
  over_either place (mention_out i m there out at) = inr (judged.mention_out i m there out at)

  pub over_least : (read unread out : Option Place) → IsLeast (IsOverIn (read_events h t)) read → IsLeast (IsOverUnread h t) unread → IsLeast (IsOut h) out → IsLeast (IsOver h t) (joined (joined read unread) out)
  over_least read unread out a b c =
      joined_least IsNumber (IsOut h) (IsOver h t) number_over address_over over_either (joined read unread) out
      (joined_least (IsOverIn (read_events h t)) (IsOverUnread h t) IsNumber (λ p x. inl x) (λ p x. inr x) (λ p x. x) read unread a b) c
