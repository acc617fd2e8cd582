-- Contexts in a heap: two heaps that agree, an entry, entries that are dropped, one more entry, and the two sides of a split.
use Rattle.std.proofs.Common.{◌≡◌, ℕ, zero, suc, ◌+◌, ◌<◌, ◌≤◌, Bool, false, IsTrue, Option, Some, None, List, [], ◌∷◌, ◌++◌, length, get_or, inl, inr, refl, sym, subst, arith}
use Rattle.cg_base.specs.declared.kind.Sigil.{Sigil}
use Rattle.cg_base.specs.declared.kind.Sigil.TheVariants.{R, W}
use Rattle.cg_base.specs.Types.{Tau}
use Rattle.cg_core.specs.declared.derivation.Mark.{Mark}
use Rattle.cg_core.specs.declared.derivation.Mark.TheVariants.{Gone, Left, Right, Both, Seen}
use Rattle.cg_core.specs.declared.term.Seen.{Seen as Observer}
use Rattle.cg_heap.specs.declared.cell.Scalar.{Scalar}
use Rattle.cg_heap.specs.Reps.{Heap, HeapWorld, Holds, foot}
use Rattle.cg_heap_laws.proofs.Bang.{bang_holds, bang_foot}
use Rattle.cg_heap_laws.proofs.ByKinds.{no_writes}
use Rattle.cg_heap_laws.proofs.Same.{holds_same}
use Rattle.cg_refine_def.specs.Contexts.{Divided, HoldsContext, HoldsEntry, context_foot, entry_foot}
use Rattle.cg_typing.specs.Contexts.{Context, Drops, DropsBut, Fits, Splits, among, drops, first, first_side, look, mark_at, push, second, second_side}
use Rattle.cg_value.specs.Values.{Val, gone}

module _ (world : HeapWorld) (h h' : Heap) where
  -- an entry, in two heaps that agree on what it reaches
  same_entry : (o : Option Tau) (us : List Scalar) (v : Val) → HoldsEntry world h o us v
      → ((q : ℕ) → 1 ≤ entry_foot h W o us q + entry_foot h R o us q → h' q ≡ h q)
      → HoldsEntry world h' o us v × ((m : Sigil) (q : ℕ) → entry_foot h' m o us q ≡ entry_foot h m o us q)
  same_entry None us v r agree = (r, λ m q. refl)
  same_entry (Some t) us v r agree = holds_same world h h' t us v r agree

  -- heaps that agree wherever a context is reached hold it by the same scalars, with the same footprint
  pub same_context : (g : Context) (us : List (List Scalar)) (vs : List Val) → HoldsContext world h g us vs
      → ((q : ℕ) → 1 ≤ context_foot h W g us q + context_foot h R g us q → h' q ≡ h q)
      → HoldsContext world h' g us vs × ((m : Sigil) (q : ℕ) → context_foot h' m g us q ≡ context_foot h m g us q)
  same_context [] [] [] r agree = (tt, λ m q. refl)
  same_context (o ∷ g) (u ∷ us) (v ∷ vs) r agree =
      let a = same_entry o u v r.0 (λ q k. agree q (omega arith)) in
      let b = same_context g us vs r.1 (λ q k. agree q (omega arith)) in
      ((a.0, b.0), λ m q. cc (a.1 m q, b.1 m q))
  same_context [] [] (v ∷ vs) r agree = absurd r
  same_context [] (u ∷ us) vs r agree = absurd r
  same_context (o ∷ g) [] vs r agree = absurd r
  same_context (o ∷ g) (u ∷ us) [] r agree = absurd r

module _ (world : HeapWorld) (h : Heap) where
  -- a present entry holds its value
  pub held_at : (g : Context) (us : List (List Scalar)) (vs : List Val) (i : ℕ) (t : Tau) → HoldsContext world h g us vs → look g i ≡ Some t
      → Holds world h t (get_or us i []) (get_or vs i gone)
  held_at [] us vs i t r e = absurd (cc)
  held_at (o ∷ g) (u ∷ us) (v ∷ vs) zero t r e = subst (λ o. HoldsEntry world h o u v) e r.0
  held_at (o ∷ g) (u ∷ us) (v ∷ vs) (suc i) t r e = held_at g us vs i t r.1 e
  held_at (o ∷ g) [] vs i t r e = absurd r
  held_at (o ∷ g) (u ∷ us) [] i t r e = absurd r

  -- an entry that may be dropped writes nothing
  dropped_entry : (o : Option Tau) (us : List Scalar) → ((t : Tau) → o ≡ Some t → IsTrue (drops [] t)) → (q : ℕ) → entry_foot h W o us q ≡ 0
  dropped_entry None us d q = refl
  dropped_entry (Some t) us d q = no_writes h [] t us q (inl (d t refl))

  -- a context that may be dropped writes nothing
  pub all_dropped : (g : Context) (us : List (List Scalar)) → Drops [] g → (q : ℕ) → context_foot h W g us q ≡ 0
  all_dropped [] us d q = refl
  all_dropped (o ∷ g) [] d q = refl
  all_dropped (o ∷ g) (u ∷ us) d q =
      let a = dropped_entry o u (d 0) q in
      let b = all_dropped g us (λ i. d (suc i)) q in
      omega arith

  -- where all but one entry may be dropped, that one alone writes, and reads no more than the context
  pub only_used : (g : Context) (us : List (List Scalar)) (vs : List Val) (i : ℕ) (t : Tau) → HoldsContext world h g us vs → look g i ≡ Some t → DropsBut [] i g
      → (q : ℕ) → (foot h W t (get_or us i []) q ≡ context_foot h W g us q) × (foot h R t (get_or us i []) q ≤ context_foot h R g us q)
  only_used [] us vs i t r e d q = absurd (cc)
  only_used (o ∷ g) [] vs i t r e d q = absurd r
  only_used (o ∷ g) (u ∷ us) [] i t r e d q = absurd r
  only_used (o ∷ g) (u ∷ us) (v ∷ vs) zero t r e d q =
      let b = all_dropped g us (λ i t. d (suc i) t (omega arith)) q in
      rw e (omega arith, omega arith)
  only_used (o ∷ g) (u ∷ us) (v ∷ vs) (suc i) t r e d q =
      let a = dropped_entry o u (λ t. d 0 t (omega arith)) q in
      let b = only_used g us vs i t r.1 e (λ i t n. d (suc i) t (omega arith)) q in
      (omega arith, omega arith)

  -- one more entry is held
  pub pushed_held : (g : Context) (us : List (List Scalar)) (vs : List Val) (t : Tau) (ws : List Scalar) (v : Val) → HoldsContext world h g us vs → Holds world h t ws v
      → HoldsContext world h (push g (Some t)) (us ++ ws ∷ []) (vs ++ v ∷ [])
  pushed_held [] [] [] t ws v r k = (k, tt)
  pushed_held (o ∷ g) (u ∷ us) (x ∷ vs) t ws v r k = (r.0, pushed_held g us vs t ws v r.1 k)
  pushed_held [] [] (x ∷ vs) t ws v r k = absurd r
  pushed_held [] (u ∷ us) vs t ws v r k = absurd r
  pushed_held (o ∷ g) [] vs t ws v r k = absurd r
  pushed_held (o ∷ g) (u ∷ us) [] t ws v r k = absurd r

  -- and adds its footprint
  pub pushed_foot : (g : Context) (us : List (List Scalar)) (vs : List Val) (t : Tau) (ws : List Scalar) → HoldsContext world h g us vs
      → (m : Sigil) (q : ℕ) → context_foot h m (push g (Some t)) (us ++ ws ∷ []) q ≡ context_foot h m g us q + foot h m t ws q
  pushed_foot [] [] [] t ws r m q = omega arith
  pushed_foot (o ∷ g) (u ∷ us) (x ∷ vs) t ws r m q = let a = pushed_foot g us vs t ws r.1 m q in omega arith
  pushed_foot [] [] (x ∷ vs) t ws r m q = absurd r
  pushed_foot [] (u ∷ us) vs t ws r m q = absurd r
  pushed_foot (o ∷ g) [] vs t ws r m q = absurd r
  pushed_foot (o ∷ g) (u ∷ us) [] t ws r m q = absurd r

  -- an argument alone is held
  pub only_held : (t : Tau) (ws : List Scalar) (v : Val) → Holds world h t ws v → HoldsContext world h (Some t ∷ []) (ws ∷ []) (v ∷ [])
  only_held t ws v k = (k, tt)

  -- and has its own footprint
  pub only_foot : (t : Tau) (ws : List Scalar) → (m : Sigil) (q : ℕ) → context_foot h m (Some t ∷ []) (ws ∷ []) q ≡ foot h m t ws q
  only_foot t ws m q = omega arith

  -- what a mark leaves of an entry on its two sides
  record EntrySides (observed : Bool) (m : Mark) (o : Option Tau) (us : List Scalar) (v : Val) : Type 0 where
    left : HoldsEntry world h (first_side m o) us v
    right : HoldsEntry world h (second_side m o) us v
    sum : (q : ℕ) → entry_foot h W (first_side m o) us q + entry_foot h W (second_side m o) us q ≡ entry_foot h W o us q
    rest : (q : ℕ) → entry_foot h R (second_side m o) us q ≤ entry_foot h R o us q
    seen : (q : ℕ) → entry_foot h R (first_side m o) us q ≤ entry_foot h R o us q + entry_foot h W (second_side m o) us q
    plain : observed ≡ false → (q : ℕ) → entry_foot h R (first_side m o) us q ≤ entry_foot h R o us q

  -- one entry, split by its mark
  entry_sides : (observed : Bool) (m : Mark) (o : Option Tau) (us : List Scalar) (v : Val) → Fits [] observed m o → HoldsEntry world h o us v → EntrySides observed m o us v
  entry_sides observed Gone None us v f r =
      record { left = tt; right = tt; sum = λ q. refl; rest = λ q. omega arith; seen = λ q. omega arith; plain = λ e q. omega arith }
  entry_sides observed Gone (Some t) us v f r = absurd f
  entry_sides observed Left None us v f r = absurd f
  entry_sides observed Left (Some t) us v f r =
      record { left = r; right = tt; sum = λ q. omega arith; rest = λ q. omega arith; seen = λ q. omega arith; plain = λ e q. omega arith }
  entry_sides observed Right None us v f r = absurd f
  entry_sides observed Right (Some t) us v f r =
      record { left = tt; right = r; sum = λ q. omega arith; rest = λ q. omega arith; seen = λ q. omega arith; plain = λ e q. omega arith }
  entry_sides observed Both None us v f r = absurd f
  entry_sides observed Both (Some t) us v f r = record {
    left = r;
    right = r;
    sum = λ q. omega (arith, no_writes h [] t us q (inr f.0));
    rest = λ q. omega arith;
    seen = λ q. omega arith;
    plain = λ e q. omega arith;
  }
  entry_sides observed Seen None us v f r = absurd f
  entry_sides observed Seen (Some t) us v f r = record {
    left = bang_holds world h t us v r;
    right = r;
    sum = λ q. omega (arith, (bang_foot h q t us).0);
    rest = λ q. omega arith;
    seen = λ q. omega (arith, (bang_foot h q t us).1);
    plain = λ e. absurd (cc);
  }

  -- the two sides of a context, where nothing that is plain is read twice
  record BothSides (m : List Mark) (g : Context) (us : List (List Scalar)) (vs : List Val) (plainly : Type 0) : Type 0 where
    left : HoldsContext world h (first m g) us vs
    right : HoldsContext world h (second m g) us vs
    sum : (q : ℕ) → context_foot h W (first m g) us q + context_foot h W (second m g) us q ≡ context_foot h W g us q
    rest : (q : ℕ) → context_foot h R (second m g) us q ≤ context_foot h R g us q
    seen : (q : ℕ) → context_foot h R (first m g) us q ≤ context_foot h R g us q + context_foot h W (second m g) us q
    plain : plainly → (q : ℕ) → context_foot h R (first m g) us q ≤ context_foot h R g us q

  -- entry by entry, each observed or not
  both_sides : (observed : ℕ → Bool) (m : List Mark) (g : Context) (us : List (List Scalar)) (vs : List Val) → length m ≡ length g
      → ((i : ℕ) → i < length g → Fits [] (observed i) (mark_at m i) (look g i)) → HoldsContext world h g us vs → BothSides m g us vs ((i : ℕ) → observed i ≡ false)
  both_sides observed m [] [] [] n f r =
      record { left = tt; right = tt; sum = λ q. refl; rest = λ q. omega arith; seen = λ q. omega arith; plain = λ e q. omega arith }
  both_sides observed m [] [] (v ∷ vs) n f r = absurd r
  both_sides observed m [] (u ∷ us) vs n f r = absurd r
  both_sides observed m (o ∷ g) [] vs n f r = absurd r
  both_sides observed m (o ∷ g) (u ∷ us) [] n f r = absurd r
  both_sides observed [] (o ∷ g) (u ∷ us) (v ∷ vs) n f r = absurd (omega arith)
  both_sides observed (m ∷ ms) (o ∷ g) (u ∷ us) (v ∷ vs) n f r =
      let a = entry_sides (observed 0) m o u v (f 0 (omega arith)) r.0 in
      let b = both_sides (λ i. observed (suc i)) ms g us vs (omega arith) (λ i k. f (suc i) (omega arith)) r.1 in
      record {
        left = (a.left, b.left);
        right = (a.right, b.right);
        sum = λ q. omega (arith, a.sum q, b.sum q);
        rest = λ q. omega (arith, a.rest q, b.rest q);
        seen = λ q. omega (arith, a.seen q, b.seen q);
        plain = λ e q. omega (arith, a.plain (e 0) q, b.plain (λ i. e (suc i)) q);
      }

  -- the two sides of a context that is split: both are held, what may be written and read is divided, and without observers the first reads
  -- no more than the whole
  pub record Sides (os : List Observer) (m : List Mark) (g : Context) (us : List (List Scalar)) (vs : List Val) : Type 0 where
    pub left : HoldsContext world h (first m g) us vs
    pub right : HoldsContext world h (second m g) us vs
    pub divided : Divided (context_foot h W g us) (context_foot h R g us) (context_foot h W (first m g) us) (context_foot h R (first m g) us)
        (context_foot h W (second m g) us) (context_foot h R (second m g) us)
    pub plain : os ≡ [] → (q : ℕ) → context_foot h R (first m g) us q ≤ context_foot h R g us q

  pub sides : (os : List Observer) (m : List Mark) (g : Context) (us : List (List Scalar)) (vs : List Val) → Splits [] os m g → HoldsContext world h g us vs
      → Sides os m g us vs
  sides os m g us vs s r =
      let b = both_sides (λ i. among i os) m g us vs s.long s.fits r in
      record {
        left = b.left;
        right = b.right;
        divided = record { sum = b.sum; rest = b.rest; seen = b.seen };
        plain = λ e. b.plain (λ i. subst (λ os. among i os ≡ false) (sym e) refl);
      }
