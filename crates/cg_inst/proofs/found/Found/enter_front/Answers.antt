use Rattle.std.proofs.Common.{◌≡◌, ◌+◌, ◌∙◌, Err, Some, [], ap, arith, drop, length, slice_get, map, sym, subst, ◌++◌}
use Rattle.cg_core.specs.Kernels.{function_of}
use Rattle.cg_base.specs.declared.fun.Fun.TheVariants.{User}
use Rattle.cg_inst.specs.Founds.{Comes, Keyed, found_in}
use Rattle.cg_inst.specs.Lists.{front_from, with_instance}
use Rattle.cg_inst_types.specs.Listings.{list_at, listing}
use Rattle.cg_inst_types.specs.Places.{Each}
use Rattle.cg_inst.proofs.FoundSteps.{comes_as, err_on, length_end, length_nodes, node_at}
use Rattle.cg_inst.proofs.FrontSteps.{IsBefore, front_done, front_longer, in_front, not_in_front}
use Rattle.cg_inst.proofs.Standing.{is_listing, listed}
use Rattle.cg_inst.proofs.found.Found.enter_front.Goals as goal
use Rattle.cg_inst.proofs.found.Found.enter_front.Goals.{then-len-eq0+in_ok-enter, else-len-eq0}

pub loop-at-init : goal.loop-at-init
loop-at-init c =
    let none = c.in_ok-none.ensures.found ∙ c.requires in
    (c.in_ok-none.ensures.place, ap (λ xs. xs ++ front_from 0 (map function_of c.args.functions.now)) none, subst (Each (IsBefore 0)) (sym none) tt)

pub enter-requires : goal.enter-requires
enter-requires c = is_listing c.loop-at.self.types c.in_ok-none.none [] c.loop-at.invariant.0

pub returns-in_err-enter : goal.returns-in_err-enter
returns-in_err-enter c =
    let fs = map function_of c.args.functions.now in let n = c.loop-at.at in let f = function_of c.index-functions-at.result in
    let bound = length_nodes function_of c.args.functions.now n c.loop-at-test.true in
    let is = node_at function_of c.args.functions.now n c.index-functions-at.result c.loop-at-test.true c.index-functions-at.is in
    let none : length f.vars ≡ 0 = sym c.len.ensures ∙ c.if-len-eq0.true in
    let place : c.in-Ok.at ≡ n = c.in-Ok.ensures.1 in
    let same : c.from_residual-in_err-enter.result ≡ Err c.in_err-enter.field-0.0 = grind arith in
    let found = comes_as c.enter.new.self _ _ (Err c.in_err-enter.field-0.0)
    (ap (λ m. with_instance (found_in c.loop-at.self) (record { fun = User m; types = list_at c.loop-at.self.types c.in_ok-none.none })) place
    ∙ ap (λ ts. with_instance (found_in c.loop-at.self) (record { fun = User n; types = ts })) (listed c.loop-at.self.types c.in_ok-none.none [] c.loop-at.invariant.0)) c.in_err-enter.ensures.found in
    subst (Comes c.enter.new.self (front_from 0 fs)) (sym same)
    (err_on c.enter.new.self _ (front_from 0 fs) c.in_err-enter.field-0.0 (front_longer fs n f bound is (found_in c.loop-at.self) (front_from 0 fs) c.loop-at.invariant.2 c.loop-at.invariant.1 none) found)

pub loop-at-preserved : goal.loop-at-preserved
loop-at-preserved c =
    let fs = map function_of c.args.functions.now in let n = c.loop-at.at in let f = function_of c.index-functions-at.result in
    let bound = length_nodes function_of c.args.functions.now n c.loop-at-test.true in
    let is = node_at function_of c.args.functions.now n c.index-functions-at.result c.loop-at-test.true c.index-functions-at.is in
    let place : c.in-Ok.at ≡ n = c.in-Ok.ensures.1 in
    elim c.if-len-eq0.branch [
      | then-len-eq0+in_ok-enter w ↦
          (let none : length f.vars ≡ 0 = sym c.len.ensures ∙ w.if-len-eq0.true in
          let entered = w.in_ok-enter.ensures.found
          ∙ ap (λ m. with_instance (found_in c.loop-at.self) (record { fun = User m; types = list_at c.loop-at.self.types c.in_ok-none.none })) place
          ∙ ap (λ ts. with_instance (found_in c.loop-at.self) (record { fun = User n; types = ts })) (listed c.loop-at.self.types c.in_ok-none.none [] c.loop-at.invariant.0) in
          let p = in_front fs n f bound is (found_in c.loop-at.self) (front_from 0 fs) c.loop-at.invariant.2 c.loop-at.invariant.1 (found_in w.enter.new.self) none entered in
          subst (λ (self : Keyed). (slice_get self.types c.in_ok-none.none ≡ Some (listing [])) × (found_in self ++ front_from (n + 1) (drop (n + 1) fs) ≡ front_from 0 fs) × Each (IsBefore (n + 1)) (found_in self))
          (sym w.self-is) (ap (λ ts. slice_get ts c.in_ok-none.none) w.in_ok-enter.ensures.types ∙ c.loop-at.invariant.0, p.0, p.1))
      | else-len-eq0 w ↦
          (let p = not_in_front fs n f bound is (found_in c.loop-at.self) (front_from 0 fs) c.loop-at.invariant.2 c.loop-at.invariant.1 (λ e. w.if-len-eq0.false (c.len.ensures ∙ e)) in
          subst (λ (self : Keyed). (slice_get self.types c.in_ok-none.none ≡ Some (listing [])) × (found_in self ++ front_from (n + 1) (drop (n + 1) fs) ≡ front_from 0 fs) × Each (IsBefore (n + 1)) (found_in self))
          (sym w.self-is) (c.loop-at.invariant.0, p.0, p.1))
    ]

pub returns : goal.returns
returns c =
    front_done (map function_of c.args.functions.now) c.loop-at.at (found_in c.loop-at.self) _ (length_end function_of c.args.functions.now c.loop-at.at (omega (arith, c.loop-at-test.false))) c.loop-at.invariant.1
