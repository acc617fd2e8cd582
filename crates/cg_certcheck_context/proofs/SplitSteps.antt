-- Splits of contexts, variable by variable, and one after another.
use Rattle.std.proofs.Common.{◌≡◌, ◌<◌, ◌≤◌, ◌+◌, ◌-◌, ℕ, zero, suc, Bool, true, false, ◌&&◌, ◌||◌, cond, nat_eq, Option, Some, None, List, [], ◌∷◌, length, map, drop, get_or, refl, sym, ap, ◌∙◌, arith}
use Rattle.std.proofs.lemmas.List.{at_drop_more, at_drop_all}
use Rattle.cg_base.specs.declared.kind.Kinds.{Kinds}
use Rattle.cg_base.specs.declared.place.Place.{Place}
use Rattle.cg_base.specs.Types.{Tau}
use Rattle.cg_certcheck_context.proofs.ContextSteps.{droppable_share, found_shares}
use Rattle.cg_certcheck_context.specs.Contexts.{context_of, entry_of, fits_present, split_in_turn}
use Rattle.cg_check_pieces.specs.View.{is_seen_at}
use Rattle.cg_certcheck_context.specs.declared.context.Entry.{Entry}
use Rattle.cg_core.specs.declared.derivation.Mark.{Mark}
use Rattle.cg_core.specs.declared.derivation.Mark.TheVariants.{Gone, Left, Right, Both, Seen}
use Rattle.cg_core.specs.declared.term.FieldTerm.{FieldTerm}
use Rattle.cg_core.specs.declared.term.Seen.{Seen as Observer}
use Rattle.cg_core.specs.Kernels.{the_field}
use Rattle.cg_core.specs.Terms.{to_named}
use Rattle.cg_kinds.specs.Kinds.{kinds}
use Rattle.cg_certcheck_def.specs.Events.{field_strings}
use Rattle.cg_certcheck_def.specs.Tests.{fits, splits, splits_where}
use Rattle.cg_typing.specs.Contexts.{Context, among, second}
use Rattle.cg_check_uses.specs.Uses.{is_seen, seen_at, seen_places, table}
use Rattle.cg_kinds.proofs.BangKinds.{bang_shares}

-- a mark and an entry
pub present_fits : (vars : List Kinds) (observed : Bool) (m : Mark) (t : Tau) → fits vars observed m (Some t) ≡ fits_present (kinds vars t).share observed m
present_fits vars observed Gone t = refl
present_fits vars observed Left t = refl
present_fits vars observed Right t = refl
present_fits vars observed Both t = refl
present_fits vars observed Seen t = refl

pub gone_fits : (vars : List Kinds) (observed : Bool) (m : Mark) → fits vars observed m None ≡ fits [] observed m None
gone_fits vars observed Gone = refl
gone_fits vars observed Left = refl
gone_fits vars observed Right = refl
gone_fits vars observed Both = refl
gone_fits vars observed Seen = refl

-- variables, one after another
module _ (vars : List Kinds) where
  abbrev pub Rest : List (Option Place) → List Mark → List Entry → ℕ → Bool
  Rest ss ms es i = splits_where vars (λ k. is_seen_at (drop i ss) k) (drop i ms) (context_of vars (drop i es))

  rest_suc : (ss : List (Option Place)) (ms : List Mark) (es : List Entry) (i : ℕ) (m : Mark) (e : Entry) → i < length ms → i < length es
      → m ≡ get_or ms i Gone → e ≡ get_or es i e → Rest ss ms es i ≡ fits vars (is_seen_at ss i) m (entry_of vars e) && Rest ss ms es (suc i)
  rest_suc ss [] es i m e h k p q = absurd (omega (arith, h))
  rest_suc ss (n ∷ ms) [] i m e h k p q = absurd (omega (arith, k))
  rest_suc [] (n ∷ ms) (d ∷ es) zero m e h k p q = ap (λ x. fits vars false x (entry_of vars d) && Rest [] ms es zero) (sym p) ∙ ap (λ x. fits vars false m (entry_of vars x) && Rest [] ms es zero) (sym q)
  rest_suc (s ∷ ss) (n ∷ ms) (d ∷ es) zero m e h k p q =
      ap (λ x. fits vars (is_seen s) x (entry_of vars d) && Rest ss ms es zero) (sym p) ∙ ap (λ x. fits vars (is_seen s) m (entry_of vars x) && Rest ss ms es zero) (sym q)
  rest_suc [] (n ∷ ms) (d ∷ es) (suc i) m e h k p q = none_left i ∙ rest_suc [] ms es i m e (omega (arith, h)) (omega (arith, k)) p q ∙ ap (λ b. fits vars false m (entry_of vars e) && b) (sym (none_left (suc i)))
    where
      none_left : (i : ℕ) → Rest [] (n ∷ ms) (d ∷ es) (suc i) ≡ Rest [] ms es i
      none_left zero = refl
      none_left (suc i) = refl
  rest_suc (s ∷ ss) (n ∷ ms) (d ∷ es) (suc i) m e h k p q = rest_suc ss ms es i m e (omega (arith, h)) (omega (arith, k)) p q

  next_rest : (ss : List (Option Place)) (ms : List Mark) (es : List Entry) (i : ℕ) → Rest ss ms es (i + 1) ≡ Rest ss ms es (suc i)
  next_rest ss ms es i = let e : i + 1 ≡ suc i = omega arith in ap (Rest ss ms es) e

  pub fits_more : (ss : List (Option Place)) (ms : List Mark) (es : List Entry) (i : ℕ) (m : Mark) (e : Entry) → i < length ms → i < length es
      → m ≡ get_or ms i Gone → e ≡ get_or es i e → fits vars (is_seen_at ss i) m (entry_of vars e) ≡ true
      → splits_where vars (λ k. is_seen_at (drop (i + 1) ss) k) (drop (i + 1) ms) (context_of vars (drop (i + 1) es))
      ≡ splits_where vars (λ k. is_seen_at (drop i ss) k) (drop i ms) (context_of vars (drop i es))
  fits_more ss ms es i m e h k p q f = next_rest ss ms es i ∙ sym (rest_suc ss ms es i m e h k p q ∙ ap (λ b. b && Rest ss ms es (suc i)) f)

  pub fits_stop : (ss : List (Option Place)) (ms : List Mark) (es : List Entry) (i : ℕ) (m : Mark) (e : Entry) → i < length ms → i < length es
      → m ≡ get_or ms i Gone → e ≡ get_or es i e → fits vars (is_seen_at ss i) m (entry_of vars e) ≡ false
      → splits_where vars (λ k. is_seen_at (drop i ss) k) (drop i ms) (context_of vars (drop i es)) ≡ false
  fits_stop ss ms es i m e h k p q f = rest_suc ss ms es i m e h k p q ∙ ap (λ b. b && Rest ss ms es (suc i)) f

  pub fits_past : (f : ℕ → Bool) (ms : List Mark) (es : List Entry) (i : ℕ) → length ms ≤ i → length ms ≡ length es → splits_where vars f (drop i ms) (context_of vars (drop i es)) ≡ true
  fits_past f ms es i h e = at_drop_all (λ l. splits_where vars f l (context_of vars (drop i es))) ms i h ∙ at_drop_all (λ l. splits_where vars f [] (context_of vars l)) es i (omega arith)

  pub not_as_long : (f : ℕ → Bool) (ms : List Mark) (es : List Entry) → (length ms ≡ length es → ⊥) → splits_where vars f ms (context_of vars es) ≡ false
  not_as_long f [] [] h = absurd (h refl)
  not_as_long f [] (e ∷ es) h = refl
  not_as_long f (m ∷ ms) [] h = refl
  not_as_long f (m ∷ ms) (e ∷ es) h =
      ap (λ b. fits vars (f zero) m (entry_of vars e) && b) (not_as_long (λ i. f (suc i)) ms es (λ k. h (ap suc k))) ∙ nothing (fits vars (f zero) m (entry_of vars e))
    where
      nothing : (b : Bool) → b && false ≡ false
      nothing true = refl
      nothing false = refl

  -- by the observers' places
  by_table : (f : ℕ → Option Place) (h : ℕ → Bool) (ms : List Mark) (es : List Entry) → ((i : ℕ) → is_seen (f i) ≡ h i)
      → splits_where vars (λ i. is_seen_at (table (length es) f) i) ms (context_of vars es) ≡ splits_where vars h ms (context_of vars es)
  by_table f h [] [] e = refl
  by_table f h [] (d ∷ es) e = refl
  by_table f h (m ∷ ms) [] e = refl
  by_table f h (m ∷ ms) (d ∷ es) e =
      ap (λ b. fits vars b m (entry_of vars d) && splits_where vars (λ i. is_seen_at (table (length es) (λ i. f (suc i))) i) ms (context_of vars es)) (e zero)
      ∙ ap (λ b. fits vars (h zero) m (entry_of vars d) && b) (by_table (λ i. f (suc i)) (λ i. h (suc i)) ms es (λ i. e (suc i)))

  pub splits_seen : (os : List Observer) (ms : List Mark) (es : List Entry) (ss : List (Option Place)) → ss ≡ seen_places (length es) os
      → splits_where vars (λ i. is_seen_at ss i) ms (context_of vars es) ≡ splits vars os ms (context_of vars es)
  splits_seen os ms es ss e = ap (λ l. splits_where vars (λ i. is_seen_at l i) ms (context_of vars es)) e ∙ by_table (λ i. seen_at i os) (λ i. among i os) ms es (λ i. is_among i os)
    where
      either : (b c : Bool) (p : Place) (o : Option Place) → is_seen o ≡ c → is_seen (cond b (Some p) o) ≡ b || c
      either true c p o e = refl
      either false c p o e = e

      is_among : (i : ℕ) (os : List Observer) → is_seen (seen_at i os) ≡ among i os
      is_among i [] = refl
      is_among i (o ∷ os) = either (nat_eq i o.var) (among i os) o.place (seen_at i os) (is_among i os)

-- mark strings, one after another
module _ (vars : List Kinds) (ss : List (List Mark)) where
  turn_rest : (i : ℕ) (d : List Mark) (g : Context) → i < length ss
      → split_in_turn vars (drop i ss) g ≡ splits vars [] (get_or ss i d) g && split_in_turn vars (drop (i + 1) ss) (second (get_or ss i d) g)
  turn_rest i d g h = at_drop_more (λ l. split_in_turn vars l g) ss i d h

  pub turn_more : (i : ℕ) (d : List Mark) (g k : Context) → i < length ss → splits vars [] (get_or ss i d) g ≡ true → k ≡ second (get_or ss i d) g
      → split_in_turn vars (drop (i + 1) ss) k ≡ split_in_turn vars (drop i ss) g
  turn_more i d g k h e f =
      ap (split_in_turn vars (drop (i + 1) ss)) f
      ∙ sym (turn_rest i d g h ∙ ap (λ b. b && split_in_turn vars (drop (i + 1) ss) (second (get_or ss i d) g)) e)

  pub turn_stop : (i : ℕ) (d : List Mark) (g : Context) → i < length ss → splits vars [] (get_or ss i d) g ≡ false → split_in_turn vars (drop i ss) g ≡ false
  turn_stop i d g h e = turn_rest i d g h ∙ ap (λ b. b && split_in_turn vars (drop (i + 1) ss) (second (get_or ss i d) g)) e

  pub turn_past : (i : ℕ) (g : Context) → length ss ≤ i → split_in_turn vars (drop i ss) g ≡ true
  turn_past i g h = at_drop_all (λ l. split_in_turn vars l g) ss i h

-- of the fields of a record
pub fields_when : (vars : List Kinds) (fs : List (FieldTerm Place)) (ss : List (List Mark)) (g : Context) → length ss ≡ length fs - 1
    → field_strings vars (to_named (map the_field fs)) ss g ≡ split_in_turn vars ss g
unfolding to_named
fields_when vars [] [] g h = refl
fields_when vars [] (s ∷ ss) g h = absurd (omega arith)
fields_when vars (f ∷ []) [] g h = refl
fields_when vars (f ∷ []) (s ∷ ss) g h = absurd (omega arith)
fields_when vars (f ∷ e ∷ fs) [] g h = absurd (omega arith)
fields_when vars (f ∷ e ∷ fs) (s ∷ ss) g h = ap (λ b. splits vars [] s g && b) (fields_when vars (e ∷ fs) ss (second s g) (omega arith))

pub fields_unless : (vars : List Kinds) (fs : List (FieldTerm Place)) (ss : List (List Mark)) (g : Context) → (length ss ≡ length fs - 1 → ⊥)
    → field_strings vars (to_named (map the_field fs)) ss g ≡ false
unfolding to_named
fields_unless vars [] [] g h = absurd (h (omega arith))
fields_unless vars [] (s ∷ ss) g h = refl
fields_unless vars (f ∷ []) [] g h = absurd (h (omega arith))
fields_unless vars (f ∷ []) (s ∷ ss) g h = refl
fields_unless vars (f ∷ e ∷ fs) [] g h = refl
fields_unless vars (f ∷ e ∷ fs) (s ∷ ss) g h =
    ap (λ b. splits vars [] s g && b) (fields_unless vars (e ∷ fs) ss (second s g) (λ k. h (omega (arith, k)))) ∙ nothing (splits vars [] s g)
  where
    nothing : (b : Bool) → b && false ≡ false
    nothing true = refl
    nothing false = refl

pub ruleset split_steps = (present_fits, gone_fits, bang_shares, found_shares, droppable_share, splits_seen)

pub ruleset where_steps = (fits_more, fits_stop, fits_past, not_as_long)

pub ruleset turn_steps = (turn_more, turn_stop, turn_past)

pub ruleset field_steps = (fields_when, fields_unless)
