-- What stands of statements still stands when more blocks have joined.
use Rattle.std.proofs.Common.{◌≡◌, ℕ, Some, List, [], ◌∷◌, ◌++◌, length, get_or, take, slice_get, ◌+◌, ◌<◌, IfOk, Result, Ok, Err, refl, sym, ap, ◌∙◌}
use Rattle.std.proofs.lemmas.List.{take_more}
use Rattle.std.specs.List.{AllByRecursion, AllZip}
use Rattle.cg_cmachine_resolve.specs.declared.line.Action.{Action}
use Rattle.cg_cmachine_resolve.specs.declared.line.Action.TheVariants as action
use Rattle.cg_cmachine_resolve.specs.declared.line.Line.{Line}
use Rattle.cg_cmachine_resolve.specs.Lines.{AreCases, Does, DoesForm, IsBlock, Stands, Whole}
use Rattle.cg_cmachine_resolve.specs.Queues.{AreLines}
use Rattle.cg_cmachine_resolve.specs.Scopes.{Scope}
use Rattle.cg_ctree.specs.declared.tree.CCase.{CCase}
use Rattle.cg_ctree.specs.declared.tree.CStmt.{CStmt, CStmt-F, out-CStmt}
use Rattle.cg_ctree.specs.declared.tree.CStmt.TheOpen as form
use Rattle.cg_base.proofs.Sequences.{get_front as stays, get_last as joins_last}

module _ (w : Whole) (vs : Scope) (all more : List (List CStmt)) where
  pub cases_stay : (cs : List CCase) (es : List (ℕ × ℕ)) → AreCases w vs all cs es → AreCases w vs (all ++ more) cs es
  cases_stay [] [] h = tt
  cases_stay [] (e ∷ es) h = absurd h
  cases_stay (c ∷ cs) [] h = absurd h
  cases_stay (c ∷ cs) (e ∷ es) h = (h.0, stays all more e.1 c.body h.1, cases_stay cs es h.2)

  pub form_stays : (s : CStmt-F CStmt CCase) (a : Action) → DoesForm w vs all s a → DoesForm w vs (all ++ more) s a
  form_stays (form.Assign p r) (action.Assign q r') d = d
  form_stays (form.Assign p r) (action.If q i j) d = absurd d
  form_stays (form.Assign p r) (action.While q i) d = absurd d
  form_stays (form.Assign p r) (action.Switch q es) d = absurd d
  form_stays (form.Assign p r) (action.Call c qs) d = absurd d
  form_stays (form.Assign p r) (action.Return q) d = absurd d
  form_stays (form.If o x y) (action.Assign q r') d = absurd d
  form_stays (form.If o x y) (action.If q i j) d = (d.0, stays all more i x d.1, stays all more j y d.2)
  form_stays (form.If o x y) (action.While q i) d = absurd d
  form_stays (form.If o x y) (action.Switch q es) d = absurd d
  form_stays (form.If o x y) (action.Call c qs) d = absurd d
  form_stays (form.If o x y) (action.Return q) d = absurd d
  form_stays (form.While o x) (action.Assign q r') d = absurd d
  form_stays (form.While o x) (action.If q i j) d = absurd d
  form_stays (form.While o x) (action.While q i) d = (d.0, stays all more i x d.1)
  form_stays (form.While o x) (action.Switch q es) d = absurd d
  form_stays (form.While o x) (action.Call c qs) d = absurd d
  form_stays (form.While o x) (action.Return q) d = absurd d
  form_stays (form.Switch o cs) (action.Assign q r') d = absurd d
  form_stays (form.Switch o cs) (action.If q i j) d = absurd d
  form_stays (form.Switch o cs) (action.While q i) d = absurd d
  form_stays (form.Switch o cs) (action.Switch q es) d = (d.0, cases_stay cs es.items d.1)
  form_stays (form.Switch o cs) (action.Call c qs) d = absurd d
  form_stays (form.Switch o cs) (action.Return q) d = absurd d
  form_stays (form.Call f os) (action.Assign q r') d = absurd d
  form_stays (form.Call f os) (action.If q i j) d = absurd d
  form_stays (form.Call f os) (action.While q i) d = absurd d
  form_stays (form.Call f os) (action.Switch q es) d = absurd d
  form_stays (form.Call f os) (action.Call c qs) d = d
  form_stays (form.Call f os) (action.Return q) d = absurd d
  form_stays (form.Return o) (action.Assign q r') d = absurd d
  form_stays (form.Return o) (action.If q i j) d = absurd d
  form_stays (form.Return o) (action.While q i) d = absurd d
  form_stays (form.Return o) (action.Switch q es) d = absurd d
  form_stays (form.Return o) (action.Call c qs) d = absurd d
  form_stays (form.Return o) (action.Return q) d = d

  pub lines_stay : (lines : List Line) → AllByRecursion (Stands w vs all) lines → AllByRecursion (Stands w vs (all ++ more)) lines
  lines_stay [] h = tt
  lines_stay (l ∷ lines) h = (form_stays (out-CStmt l.source.now) l.action h.0, lines_stay lines h.1)

  pub blocks_stay : (bs : List (List CStmt)) (lines : List (List Line)) → AllZip (AreLines w vs all) bs lines → AllZip (AreLines w vs (all ++ more)) bs lines
  blocks_stay [] [] h = tt
  blocks_stay [] (l ∷ ls) h = absurd h
  blocks_stay (b ∷ bs) [] h = absurd h
  blocks_stay (b ∷ bs) (l ∷ ls) h = (record { same = h.0.same; stand = lines_stay l h.0.stand }, blocks_stay bs ls h.1)

-- a turn of the loop over cases
module _ (w : Whole) (vs : Scope) where
  cases_push : (all : List (List CStmt)) (cs : List CCase) (es : List (ℕ × ℕ)) (c : CCase) (n : ℕ) → AreCases w vs all cs es → IsBlock w vs all n c.body → AreCases w vs all (cs ++ c ∷ []) (es ++ (c.tag, n) ∷ [])
  cases_push all [] [] c n h is = (refl, is, tt)
  cases_push all [] (e ∷ es) c n h is = absurd h
  cases_push all (d ∷ cs) [] c n h is = absurd h
  cases_push all (d ∷ cs) (e ∷ es) c n h is = (h.0, h.1, cases_push all cs es c n h.2 is)

  pub cases_turn : (before after : List (List CStmt)) (cs : List CCase) (i : ℕ) (c : CCase) (es more : List (ℕ × ℕ)) (b : List CStmt) (n : ℕ) → i < length cs → c ≡ get_or cs i c
      → AreCases w vs before (take i cs) es → after ≡ before ++ b ∷ [] → b ≡ c.body → n ≡ length before → more ≡ es ++ (c.tag, n) ∷ [] → AreCases w vs after (take (i + 1) cs) more
  cases_turn before after cs i c es more b n within item h e same number is =
      let taken : take (i + 1) cs ≡ take i cs ++ c ∷ [] = take_more cs i c within ∙ ap (λ y. take i cs ++ y ∷ []) (sym item) in
      let last : slice_get (before ++ b ∷ []) n ≡ Some c.body = ap (slice_get (before ++ b ∷ [])) number ∙ joins_last before b ∙ ap Some same in
      rw (taken, e, is) (cases_push (before ++ b ∷ []) (take i cs) es c n (cases_stay w vs before (b ∷ []) (take i cs) es h) last)

  -- what does not speak of blocks
  pub does_any : {E : Type 0} (all : List (List CStmt)) (r : Result Action E) (s : CStmt) (f : CStmt-F CStmt CCase) → out-CStmt s ≡ f
      → IfOk r (λ a. (blocks : List (List CStmt)) → DoesForm w vs blocks f a) → IfOk r (Does w vs all s)
  does_any all (Ok a) s f e h = rw e (h all)
  does_any all (Err x) s f e h = tt
