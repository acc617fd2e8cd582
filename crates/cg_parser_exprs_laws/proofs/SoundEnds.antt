-- What begins an expression or ends one keeps what has been read: words, signs, bars and operators.
use Rattle.std.proofs.Common.{◌≡◌, ℕ, zero, suc, ◌+◌, ◌≤◌, List, [], ◌∷◌, ◌++◌, length, length-append, append_assoc, inr, refl, sym, ◌∙◌, ap, subst, arith, Bool, Option, Some, None}
use Rattle.std.specs.Prelude.{nat_le, if◌then◌else◌}
use Rattle.std.proofs.lemmas.Bool.{leb-true, leb-false}
use Rattle.cg_base.specs.declared.place.Place.{Place}
use Rattle.cg_base.specs.Reader.{Reader}
use Rattle.cg_core.specs.declared.at.At.{At}
use Rattle.cg_core.specs.declared.op.Op.{Op}
use Rattle.cg_core.specs.declared.op.Op.TheVariants.{Complement, Not}
use Rattle.cg_surface.specs.Written.{Written}
use Rattle.cg_surface.specs.Patterns.{Pattern}
use Rattle.cg_surface.specs.Exprs.{Expr, con, binary, FieldExprs, and_field, no_binds, no_alts}
use Rattle.cg_parser_symbols.specs.Symbols.{Symbol, Seen}
use Rattle.cg_parser_symbols.specs.Symbols as symbols
use Rattle.cg_parser_symbols.specs.Readings.{Reading, ◌then◌}
use Rattle.cg_parser_exprs_def.specs.Bars.{Choice, New, Joins, Wrong, bar_choice}
use Rattle.cg_parser_exprs_def.specs.Grammar.{level, left_of, looseness, Stands, op_sign, Binds, FieldsBind, ReadsFields}
use Rattle.cg_parser_exprs_def.specs.Machine as machine
use Rattle.cg_parser_exprs_def.specs.Machine.{Owner, Record, Put, Prefix, Operation, Upcast, InParen, InTuple, InField, Argument, Payload, Operand, RightOf, Bound, Body, Condition, Then, Else, Branch, Want, Have, AfterUpper, InPattern, WantAlt, Stuck, WrongBar}
use Rattle.cg_parser_build.specs.Plain.{trees}
use Rattle.cg_parser_exprs_def.specs.Unfinished as unfinished
use Rattle.cg_parser_exprs_def.specs.Unfinished.{Frame, Open, OwnerFits}
use Rattle.cg_parser_exprs_laws.proofs.Parts.{nothing_read}
use Rattle.cg_parser_exprs_laws.proofs.SoundStates as states
use Rattle.cg_parser_exprs_laws.proofs.SoundFacts.{left_le, op_least, at}
use Rattle.cg_parser_exprs_laws.proofs.SoundFrames.{anywhere, whole_of, alts_read, fill_holds, closed_holds}
use Rattle.cg_base.proofs.Spans.{either_way as choose}

module _ {TS PS : Type 0} (types : Reader TS Seen Written) (patterns : Reader PS Seen Pattern) (OfType : List Seen → Written → Type 0) (OfPattern : List Seen → Pattern → Type 0) where
  abbrev Mode : Type 0
  Mode = states.Mode types patterns OfType OfPattern

  abbrev opens : List Frame → List ℕ
  opens = machine.opens types patterns trees

  abbrev room : List Frame → ℕ
  room = machine.room types patterns trees

  abbrev SeenRead : List At → Reading
  SeenRead = unfinished.SeenRead OfType OfPattern

  abbrev OwnerRead : Owner Expr → Reading
  OwnerRead = unfinished.OwnerRead OfType OfPattern

  abbrev Below : List Frame → Reading
  Below = unfinished.Below OfType OfPattern

  abbrev Good : List Frame → Type 0
  Good = unfinished.Good OfType OfPattern

  abbrev Holds : List Seen → List Seen → Mode → Type 0
  Holds = states.Holds types patterns OfType OfPattern

  abbrev Spelled : List ℕ → List Seen → List Seen → Expr → List Frame → Type 0
  Spelled = states.Spelled types patterns OfType OfPattern

  -- nothing was read
  stuck : (all rest : List Seen) → Holds all rest Stuck
  stuck all rest = record { sound = tt; read = tt }

  wrong : (all rest : List Seen) → Holds all rest WrongBar
  wrong all rest = record { sound = tt; read = tt }

  module _ (all rest : List Seen) (p : Place) where
    -- fields in braces, closed
    pub owned_holds : (o : Owner Expr) (gs : FieldExprs) (at_field : At) (e : Expr) (fs : List Frame) → OwnerFits (room fs) o → FieldsBind gs → Stands e → Binds e → Good fs
        → (Below fs then OwnerRead o then ReadsFields OfType OfPattern (and_field gs at_field e)) all (at symbols.closing_brace p rest)
        → Holds all rest (Have (machine.owned types patterns trees o (and_field gs at_field e)) fs)
    owned_holds (Record q) gs at_field e fs i b st bs g r =
        let u = r.2 in
        record { sound = ((omega arith, (b, st, bs), λ k. tt), g); read = (r.0, r.1, (refl, (u.0, u.1, (_, u.2, (p, refl))))) }
    owned_holds (Put a) gs at_field e fs i b st bs g r =
        let u = r.2 in let v = u.1 in
        record { sound = ((omega arith, (i.0, i.1, (b, st, bs)), i.2), g); read = (r.0, r.1, (refl, refl, (v.0, v.1, (u.0, v.2, (_, u.2, (p, refl)))))) }

    -- where an expression is wanted
    on_upper_holds : (n : List ℕ) (fs : List Frame) → Good fs → Below fs all (at (symbols.upper n) p rest) → Holds all rest (machine.on_upper types patterns trees p n fs)
    on_upper_holds n fs g r =
        choose (Holds all rest) (nat_le 1 (room fs)) (AfterUpper p n fs) (Have (con p n) fs)
        (λ q. record { sound = (leb-true 1 (room fs) q, g); read = (_, r, refl) })
        (λ q. let c = leb-false 1 (room fs) q in record { sound = ((omega arith, tt, λ k. absurd (omega (arith, c, k))), g); read = (_, r, (refl, refl)) })

    on_prefix_holds : (o : Prefix) (fs : List Frame) → Good fs → Below (Operand p o ∷ fs) all rest → Holds all rest (machine.on_prefix types patterns trees p o fs)
    on_prefix_holds o fs g r =
        choose (Holds all rest) (nat_le 2 (room fs)) (Want (Operand p o ∷ fs)) Stuck
        (λ q. record { sound = (leb-true 2 (room fs) q, tt, g); read = r })
        (λ q. stuck all rest)

    on_let_holds : (fs : List Frame) → Good fs → Below fs all (at symbols.let_word p rest) → Holds all rest (machine.on_let types patterns trees p fs)
    on_let_holds fs g r =
        choose (Holds all rest) (nat_le 12 (room fs)) (InPattern p no_binds patterns.begin fs) Stuck
        (λ q. record { sound = (leb-true 12 (room fs) q, tt, g); read = (_, r, (rest, refl, (rest, refl, nothing_read patterns rest))) })
        (λ q. stuck all rest)

    on_if_holds : (fs : List Frame) → Good fs → Below fs all (at symbols.if_word p rest) → Holds all rest (machine.on_if types patterns trees p fs)
    on_if_holds fs g r =
        choose (Holds all rest) (nat_le 12 (room fs)) (Want (Condition p ∷ fs)) Stuck
        (λ q. record { sound = (leb-true 12 (room fs) q, tt, g); read = (_, r, refl) })
        (λ q. stuck all rest)

    on_empty_holds : (fs : List Frame) → Good fs → Below fs all (at symbols.closing p rest) → Holds all rest (machine.on_empty types patterns trees fs)
    on_empty_holds [] g r = stuck all rest
    on_empty_holds (InParen q ∷ fs) g r = record { sound = ((omega arith, tt, λ k. tt), g.2); read = (r.0, r.1, (refl, (_, r.2, (p, refl)))) }
    on_empty_holds (f ∷ fs) g r = stuck all rest

    -- a symbol where an expression is wanted
    pub start_holds : (y : Symbol) (fs : List Frame) → Good fs → Below fs all (at y p rest) → Holds all rest (machine.start types patterns trees y p fs)
    start_holds (symbols.lower n) fs g r = record { sound = g; read = (_, r, refl) }
    start_holds (symbols.upper n) fs g r = on_upper_holds n fs g r
    start_holds (symbols.numeral v) fs g r = record { sound = ((omega arith, tt, λ k. tt), g); read = (_, r, (refl, refl)) }
    start_holds symbols.true_word fs g r = record { sound = ((omega arith, tt, λ k. tt), g); read = (_, r, (refl, refl)) }
    start_holds symbols.false_word fs g r = record { sound = ((omega arith, tt, λ k. tt), g); read = (_, r, (refl, refl)) }
    start_holds symbols.opening fs g r = record { sound = (omega arith, tt, g); read = (_, r, refl) }
    start_holds symbols.closing fs g r = on_empty_holds fs g r
    start_holds symbols.unboxed fs g r = record { sound = (tt, tt, g); read = (_, r, (_, refl, refl)) }
    start_holds symbols.not_word fs g r = on_prefix_holds (Operation Not) fs g (_, r, refl)
    start_holds symbols.complement_word fs g r = on_prefix_holds (Operation Complement) fs g (_, r, refl)
    start_holds symbols.upcast_word fs g r = on_prefix_holds Upcast fs g (_, r, refl)
    start_holds symbols.let_word fs g r = on_let_holds fs g r
    start_holds symbols.if_word fs g r = on_if_holds fs g r
    start_holds y fs g r = stuck all rest

    module _ (to : List ℕ) where
      on_close_holds : (e : Expr) (fs : List Frame) → Spelled to all (at symbols.closing p rest) e fs → Holds all rest (machine.on_close types patterns trees e fs)
      on_close_holds e [] s = stuck all rest
      on_close_holds e (InParen q ∷ fs) s =
          let r = s.read in
          record { sound = ((omega arith, (s.stands (omega arith), s.binds), λ k. tt), s.good.2); read = (r.1.0, r.1.1, (refl, (r.0, r.1.2, (_, (to, r.2), (p, refl))))) }
      on_close_holds e (InTuple q es ∷ fs) s =
          let g = s.good in let r = s.read in let b = r.1.2 in
          record {
            sound = ((omega arith, (g.1.0 e, (g.1.1, s.stands (omega arith), s.binds)), λ k. tt), g.2);
            read = (r.1.0, r.1.1, (refl, (b.0, b.1, (_, (r.0, b.2, (to, r.2)), (p, refl)))));
          }
      on_close_holds e (f ∷ fs) s = stuck all rest

      on_comma_holds : (e : Expr) (fs : List Frame) → Spelled to all (at symbols.comma p rest) e fs → Holds all rest (machine.on_comma types patterns trees e fs)
      on_comma_holds e [] s = stuck all rest
      on_comma_holds e (InParen q ∷ fs) s =
          let r = s.read in
          record {
            sound = (omega arith, (λ x. tt, (tt, s.stands (omega arith), s.binds)), s.good.2);
            read = (r.1.0, r.1.1, (r.0, r.1.2, (r.0, refl, (_, (to, r.2), (p, refl)))));
          }
      on_comma_holds e (InTuple q es ∷ fs) s =
          let g = s.good in let r = s.read in let b = r.1.2 in
          record {
            sound = (omega arith, (λ x. tt, (g.1.1, s.stands (omega arith), s.binds)), g.2);
            read = (r.1.0, r.1.1, (b.0, b.1, (r.0, b.2, (_, (to, r.2), (p, refl)))));
          }
      on_comma_holds e (InField o gs at_field ∷ fs) s =
          let g = s.good in let r = s.read in let b = r.1.2 in let c = b.2 in let d = c.2 in
          record {
            sound = (g.1.0, (g.1.1, s.stands (omega arith), s.binds), g.2);
            read = (r.1.0, r.1.1, (b.0, b.1, (c.0, c.1, (_, inr (d.0, d.1, (r.0, d.2, (to, r.2))), (p, refl)))));
          }
      on_comma_holds e (f ∷ fs) s = stuck all rest

      on_brace_holds : (e : Expr) (fs : List Frame) → Spelled to all (at symbols.closing_brace p rest) e fs → Holds all rest (machine.on_brace types patterns trees e fs)
      on_brace_holds e [] s = stuck all rest
      on_brace_holds e (InField o gs at_field ∷ fs) s =
          let g = s.good in let r = s.read in let b = r.1.2 in let c = b.2 in let d = c.2 in
          owned_holds o gs at_field e fs g.1.0 g.1.1 (s.stands (omega arith)) s.binds g.2 (r.1.0, r.1.1, (b.0, b.1, (c.0, c.1, inr (d.0, d.1, (r.0, d.2, (to, r.2))))))
      on_brace_holds e (f ∷ fs) s = stuck all rest

      on_colon_holds : (e : Expr) (fs : List Frame) → Spelled to all (at symbols.colon p rest) e fs → Holds all rest (machine.on_colon types patterns trees e fs)
      on_colon_holds e [] s = stuck all rest
      on_colon_holds e (InParen q ∷ fs) s =
          let r = s.read in
          record { sound = (s.stands (omega arith), s.binds, s.good.2); read = (r.1.0, r.1.1, (r.0, r.1.2, (_, (to, r.2), (rest, (p, refl), nothing_read types rest)))) }
      on_colon_holds e (f ∷ fs) s = stuck all rest

      -- at `in`, with observed variables behind the expression
      pub on_in_holds : (mid : List Seen) (seen : List At) (e : Expr) (fs : List Frame) → Spelled to all mid e fs → SeenRead seen mid (at symbols.in_word p rest) → Holds all rest (machine.on_in types patterns trees seen e fs)
      on_in_holds mid seen e [] s k = stuck all rest
      on_in_holds mid seen e (Bound q bs x ∷ fs) s k =
          let g = s.good in let r = s.read in let b = r.1.2 in let c = b.2 in let d = c.2 in
          record {
            sound = (g.0, (g.1, s.stands (omega arith), s.binds), g.2);
            read = (r.1.0, r.1.1, (b.0, b.1, (_, (c.0, c.1, (d.0, d.1, (r.0, d.2, (mid, (to, r.2), k)))), (p, refl))));
          }
      on_in_holds mid seen e (f ∷ fs) s k = stuck all rest

      -- at `and`
      pub on_and_holds : (mid : List Seen) (seen : List At) (e : Expr) (fs : List Frame) → Spelled to all mid e fs → SeenRead seen mid (at symbols.and_word p rest) → Holds all rest (machine.on_and types patterns trees seen e fs)
      on_and_holds mid seen e [] s k = stuck all rest
      on_and_holds mid seen e (Bound q bs x ∷ fs) s k =
          let g = s.good in let r = s.read in let b = r.1.2 in let c = b.2 in let d = c.2 in
          record {
            sound = (g.0, (g.1, s.stands (omega arith), s.binds), g.2);
            read = (r.1.0, r.1.1, (b.0, b.1, (rest, (c.0, c.1, (d.0, d.1, (r.0, d.2, (mid, (to, r.2), (_, k, (p, refl)))))), nothing_read patterns rest)));
          }
      on_and_holds mid seen e (f ∷ fs) s k = stuck all rest

      -- at `then`
      pub on_then_holds : (mid : List Seen) (seen : List At) (e : Expr) (fs : List Frame) → Spelled to all mid e fs → SeenRead seen mid (at symbols.then_word p rest) → Holds all rest (machine.on_then types patterns trees seen e fs)
      on_then_holds mid seen e [] s k = stuck all rest
      on_then_holds mid seen e (Condition q ∷ fs) s k =
          let g = s.good in let r = s.read in
          record { sound = (g.0, (s.stands (omega arith), s.binds), g.2); read = (r.1.0, r.1.1, (r.0, r.1.2, (mid, (to, r.2), (_, k, (p, refl))))) }
      on_then_holds mid seen e (f ∷ fs) s k = stuck all rest

      on_else_holds : (e : Expr) (fs : List Frame) → Spelled to all (at symbols.else_word p rest) e fs → Holds all rest (machine.on_else types patterns trees e fs)
      on_else_holds e [] s = stuck all rest
      on_else_holds e (Then q c seen ∷ fs) s =
          let g = s.good in let r = s.read in let b = r.1.2 in let u = b.2 in let d = u.2 in
          record {
            sound = (g.0, (g.1.0, g.1.1, s.stands (omega arith), s.binds), g.2);
            read = (r.1.0, r.1.1, (b.0, b.1, (u.0, u.1, (d.0, d.1, (r.0, d.2, (_, (to, r.2), (p, refl)))))));
          }
      on_else_holds e (f ∷ fs) s = stuck all rest

      -- at a word or a sign that closes what it may
      pub on_end_holds : (y : Symbol) (e : Expr) (fs : List Frame) → Spelled to all (at y p rest) e fs → Holds all rest (machine.on_end types patterns trees y e fs)
      on_end_holds symbols.closing e fs s = on_close_holds e fs s
      on_end_holds symbols.comma e fs s = on_comma_holds e fs s
      on_end_holds symbols.closing_brace e fs s = on_brace_holds e fs s
      on_end_holds symbols.colon e fs s = on_colon_holds e fs s
      on_end_holds symbols.in_word e fs s = on_in_holds _ [] e fs s refl
      on_end_holds symbols.and_word e fs s = on_and_holds _ [] e fs s refl
      on_end_holds symbols.then_word e fs s = on_then_holds _ [] e fs s refl
      on_end_holds symbols.else_word e fs s = on_else_holds e fs s
      on_end_holds y e fs s = stuck all rest

    -- a bar
    module _ (first : Bool) where
      on_new_holds : (to : List ℕ) (mid : List Seen) (seen : List At) (e : Expr) (fs : List Frame) → bar_choice first p.column to ≡ New → looseness e ≤ 11 → Spelled to all mid e fs → SeenRead seen mid (at (symbols.bar first) p rest)
          → Holds all rest (machine.on_new types patterns trees p.column seen e fs)
      on_new_holds to mid seen e fs new l s k =
          choose (Holds all rest) (nat_le 12 (room fs)) (WantAlt (record { subject = e; seen = seen; before = no_alts; column = p.column }) fs) Stuck
          (λ q. let r = s.read in let a = anywhere types patterns OfType OfPattern e (opens fs) to [] r.0 mid l r.2 in
          let c = leb-true 12 (room fs) q in
          let P : List ℕ → Type 0 = λ os. bar_choice first p.column os ≡ New in
          record {
            sound = (c, (l, s.stands (omega (arith, c)), s.binds, tt, tt), s.good);
            read = (r.0, r.1, (mid, ([], a.1), (_, k, (p, first, refl, subst P a.0 new, refl))));
          })
          (λ q. stuck all rest)

      next_alt_holds : (to inner : List ℕ) (o : Open) (q : Place) (head : Option (List ℕ)) (x : Pattern) (e : Expr) (fs : List Frame) → to ≡ inner ++ o.column ∷ opens fs → bar_choice first p.column to ≡ Joins (length inner)
          → Spelled to all (at (symbols.bar first) p rest) e (Branch o q head x ∷ fs) → Holds all rest (machine.next_alt types patterns trees o q head x e fs)
      next_alt_holds to inner o q None x e fs same joins s = stuck all rest
      next_alt_holds to inner o q (Some n) x e fs same joins s =
          let g = s.good in let r = s.read in let i = g.1 in let b = r.1.2 in let m = b.1 in let k = b.2 in
          record {
            sound = (g.0, (i.0, i.1, i.2, i.3, (i.4, s.stands (omega arith), s.binds)), g.2);
            read = (
              r.1.0,
              r.1.1,
              (
                m.0,
                m.1,
                (
                  m.2.0,
                  m.2.1,
                  (to, p, first, inner, same, joins, (_, alts_read types patterns OfType OfPattern o.before o.column (opens fs) to q (Some n) x e m.2.0 _ (b.0, m.2.2, (k.0, k.1, (r.0, k.2, r.2))), refl)),
                ),
              ),
            );
          }

      joined_holds : (to inner : List ℕ) (j : ℕ) (e : Expr) (fs : List Frame) → to ≡ inner ++ opens fs → bar_choice first p.column to ≡ Joins (length inner + j) → Spelled to all (at (symbols.bar first) p rest) e fs
          → Holds all rest (machine.joined types patterns trees j e fs)
      joined_holds to inner j e [] same joins s = stuck all rest
      joined_holds to inner zero e (Branch o q head x ∷ fs) same joins s =
          let c : length inner + zero ≡ length inner = omega arith in next_alt_holds to inner o q head x e fs same (joins ∙ ap Joins c) s
      joined_holds to inner (suc j) e (Branch o q head x ∷ fs) same joins s =
          let c : length inner + suc j ≡ length (inner ++ o.column ∷ []) + j = omega (arith, length-append inner (o.column ∷ [])) in
          joined_holds to (inner ++ o.column ∷ []) j _ fs (same ∙ sym (append_assoc inner (o.column ∷ []) (opens fs))) (joins ∙ ap Joins c) (fill_holds types patterns OfType OfPattern to all _ (Branch o q head x) e fs (omega arith) s)
      joined_holds to inner zero e (InParen q ∷ fs) same joins s = stuck all rest
      joined_holds to inner (suc j) e (InParen q ∷ fs) same joins s = stuck all rest
      joined_holds to inner zero e (InTuple q es ∷ fs) same joins s = stuck all rest
      joined_holds to inner (suc j) e (InTuple q es ∷ fs) same joins s = stuck all rest
      joined_holds to inner zero e (InField o gs at_field ∷ fs) same joins s = stuck all rest
      joined_holds to inner (suc j) e (InField o gs at_field ∷ fs) same joins s = stuck all rest
      joined_holds to inner zero e (Argument f ∷ fs) same joins s = joined_holds to inner zero _ fs same joins (fill_holds types patterns OfType OfPattern to all _ (Argument f) e fs (omega arith) s)
      joined_holds to inner (suc j) e (Argument f ∷ fs) same joins s = joined_holds to inner (suc j) _ fs same joins (fill_holds types patterns OfType OfPattern to all _ (Argument f) e fs (omega arith) s)
      joined_holds to inner zero e (Payload q n ∷ fs) same joins s = joined_holds to inner zero _ fs same joins (fill_holds types patterns OfType OfPattern to all _ (Payload q n) e fs (omega arith) s)
      joined_holds to inner (suc j) e (Payload q n ∷ fs) same joins s = joined_holds to inner (suc j) _ fs same joins (fill_holds types patterns OfType OfPattern to all _ (Payload q n) e fs (omega arith) s)
      joined_holds to inner zero e (Operand q o ∷ fs) same joins s = joined_holds to inner zero _ fs same joins (fill_holds types patterns OfType OfPattern to all _ (Operand q o) e fs (omega arith) s)
      joined_holds to inner (suc j) e (Operand q o ∷ fs) same joins s = joined_holds to inner (suc j) _ fs same joins (fill_holds types patterns OfType OfPattern to all _ (Operand q o) e fs (omega arith) s)
      joined_holds to inner zero e (RightOf q o a ∷ fs) same joins s =
          choose (Holds all rest) (nat_le (level o) 12) (machine.joined types patterns trees zero (binary q o a e) fs) Stuck
          (λ c. joined_holds to inner zero _ fs same joins (fill_holds types patterns OfType OfPattern to all _ (RightOf q o a) e fs (leb-true (level o) 12 c) s))
          (λ c. stuck all rest)
      joined_holds to inner (suc j) e (RightOf q o a ∷ fs) same joins s =
          choose (Holds all rest) (nat_le (level o) 12) (machine.joined types patterns trees (suc j) (binary q o a e) fs) Stuck
          (λ c. joined_holds to inner (suc j) _ fs same joins (fill_holds types patterns OfType OfPattern to all _ (RightOf q o a) e fs (leb-true (level o) 12 c) s))
          (λ c. stuck all rest)
      joined_holds to inner zero e (Bound q bs x ∷ fs) same joins s = stuck all rest
      joined_holds to inner (suc j) e (Bound q bs x ∷ fs) same joins s = stuck all rest
      joined_holds to inner zero e (Body q bs ∷ fs) same joins s = joined_holds to inner zero _ fs same joins (fill_holds types patterns OfType OfPattern to all _ (Body q bs) e fs (omega arith) s)
      joined_holds to inner (suc j) e (Body q bs ∷ fs) same joins s = joined_holds to inner (suc j) _ fs same joins (fill_holds types patterns OfType OfPattern to all _ (Body q bs) e fs (omega arith) s)
      joined_holds to inner zero e (Condition q ∷ fs) same joins s = stuck all rest
      joined_holds to inner (suc j) e (Condition q ∷ fs) same joins s = stuck all rest
      joined_holds to inner zero e (Then q c seen ∷ fs) same joins s = stuck all rest
      joined_holds to inner (suc j) e (Then q c seen ∷ fs) same joins s = stuck all rest
      joined_holds to inner zero e (Else q c seen a ∷ fs) same joins s = joined_holds to inner zero _ fs same joins (fill_holds types patterns OfType OfPattern to all _ (Else q c seen a) e fs (omega arith) s)
      joined_holds to inner (suc j) e (Else q c seen a ∷ fs) same joins s = joined_holds to inner (suc j) _ fs same joins (fill_holds types patterns OfType OfPattern to all _ (Else q c seen a) e fs (omega arith) s)

      choice_holds : (c : Choice) (mid : List Seen) (seen : List At) (e : Expr) (fs : List Frame) → bar_choice first p.column (opens fs) ≡ c → looseness e ≤ 11 → Spelled (opens fs) all mid e fs → SeenRead seen mid (at (symbols.bar first) p rest)
          → Holds all rest (machine.on_choice types patterns trees c p.column seen e fs)
      choice_holds New mid seen e fs c l s k =
          closed_holds types patterns OfType OfPattern (opens fs) all mid (Holds all rest) 11 (machine.on_new types patterns trees p.column seen) (omega arith) (λ x xs i t. on_new_holds (opens fs) mid seen x xs c i t k) fs e l s
      choice_holds (Joins j) mid [] e fs c l s k =
          let P : List Seen → Type 0 = λ x. Spelled (opens fs) all x e fs in
          let d : j ≡ length {A = ℕ} [] + j = omega arith in
          joined_holds (opens fs) [] j e fs refl (c ∙ ap Joins d) (subst P k s)
      choice_holds (Joins j) mid (n ∷ ns) e fs c l s k = stuck all rest
      choice_holds Wrong mid seen e fs c l s k = wrong all rest

      -- at a bar, whichever match it belongs to
      pub on_bar_holds : (mid : List Seen) (seen : List At) (e : Expr) (fs : List Frame) → looseness e ≤ 11 → Spelled (opens fs) all mid e fs → SeenRead seen mid (at (symbols.bar first) p rest)
          → Holds all rest (machine.on_bar types patterns trees first p seen e fs)
      on_bar_holds mid seen e fs l s k = choice_holds (bar_choice first p.column (opens fs)) mid seen e fs refl l s k

  -- at an operator
  pub on_op_holds : (to : List ℕ) (all mid rest : List Seen) (o : Op) (q : Place) (e : Expr) (fs : List Frame) → looseness e ≤ left_of o → Spelled to all mid e fs → op_sign o q mid rest → Holds all rest (machine.on_op types patterns trees o q e fs)
  on_op_holds to all mid rest o q e fs h s k =
      choose (Holds all rest) (nat_le (level o) (room fs)) (Want (RightOf q o e ∷ fs)) Stuck
      (λ b. let m = op_least o q mid rest k in let l = leb-true (level o) (room fs) b in let r = s.read in
      record {
        sound = (l, (m, h, s.stands (omega (arith, m, l)), s.binds), s.good);
        read = (r.0, r.1, (mid, whole_of types patterns OfType OfPattern e (opens fs) to r.0 mid (omega (arith, h, left_le o)) r.2, k));
      })
      (λ b. stuck all rest)
