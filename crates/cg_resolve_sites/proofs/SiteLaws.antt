-- Sites, one step after another.
use Rattle.std.proofs.Common.{◌≡◌, ℕ, ◌+◌, ◌*◌, ◌<◌, ◌≤◌, List, [], ◌∷◌, ◌++◌, length, Option, Result, Ok, Err, refl, sym, ap, ◌∙◌, subst, arith, length-append}
use Rattle.std.specs.Result.{IsErrAnd}
use Rattle.cg_resolve_def.specs.Desugar.{depth_of, term_limit}
use Rattle.cg_resolve_def.specs.Terms.{Scope, Term, Rest}
use Rattle.cg_resolve_sites.specs.declared.fault.TermFault.{TermFault}
use Rattle.cg_resolve_sites.specs.declared.fault.TermFault.TheVariants.{TooDeep, Memory}
use Rattle.cg_resolve_sites.specs.declared.frames.Frame.{Frame}
use Rattle.cg_resolve_sites.specs.declared.frames.Site.{Site}
use Rattle.cg_resolve_sites.specs.Frames.{around, around_all, beside, frames_depth}
use Rattle.cg_resolve_sites.specs.Sites.{entry_of, scope_of, scope_in, inside, level, Fits, Moved, IsTooDeep, Refuses, Binds}
use Rattle.cg_resolve_sites.proofs.FrameLaws.{depth_inside, inside_deep, around_more, frames_more, no_depth}
use Rattle.cg_resolve_sites.proofs.ScopeSteps.{scope_push}
use denote.Ref.{Bor}

-- an answer that gives up, for another reason that follows
pub weaker : (fault : TermFault) (P Q : Type 0) → Refuses fault P → (P → Q) → Refuses fault Q
weaker TooDeep P Q holds follows = follows holds
weaker Memory P Q holds follows = tt

-- an answer handed on
pub err_binds : (a c : Site) (made : Rest → Term) (fault : TermFault) (result : Result Unit TermFault) → IsErrAnd result (λ e. e ≡ fault) → Refuses fault (IsTooDeep a made) → Binds a made result c
err_binds a c made fault (Ok done) is refuses = absurd is
err_binds a c made fault (Err e) is refuses = subst (λ f. Refuses f (IsTooDeep a made)) (sym is) refuses

-- a site where nothing is done
pub moved_none : (a : Site) (made : Rest → Term) → Fits a → Moved a made a made
moved_none a made fits = record { above = refl; same = λ rest. refl; fits = fits }

-- a step, and what is too deep in it
module _ (a b c : Site) (made step : Rest → Term) (next : Scope → Rest → Term) (so_far : Moved a made b (λ rest. step (λ scope. next scope rest))) where
  pub moved_step : Moved b step c (λ rest. rest (scope_in c)) → Moved a made c (next (scope_in c))
  moved_step one = record {
    above = one.above ∙ so_far.above;
    same = λ rest. so_far.same rest ∙ one.same (λ scope. next scope rest);
    fits = one.fits;
  }

  pub deep_step : IsTooDeep b step → IsTooDeep a made
  deep_step deep = λ rest.
      let d : term_limit < b.above + depth_of (inside b (step (λ scope. next scope rest))) = deep (λ scope. next scope rest) in
      omega (arith, so_far.above, ap depth_of (so_far.same rest))

-- steps one after the other
pub binds_then : (a b c : Site) (first : Rest → Term) (next : Scope → Rest → Term) (result : Result Unit TermFault)
    → Moved a first b (λ rest. rest (scope_in b)) → Binds b (next (scope_in b)) result c → Binds a (λ rest. first (λ scope. next scope rest)) result c
binds_then a b c first next (Ok done) moved binds = record {
  above = binds.above ∙ moved.above;
  same = λ rest. moved.same (λ scope. next scope rest) ∙ binds.same rest;
  fits = binds.fits;
}
binds_then a b c first next (Err fault) moved refuses = weaker fault _ _ refuses (λ deep rest.
    let d : term_limit < b.above + depth_of (inside b (next (scope_in b) rest)) = deep rest in
    omega (arith, moved.above, ap depth_of (moved.same (λ scope. next scope rest))))

-- where the first step is too deep, so are both
pub first_deep : (a : Site) (first : Rest → Term) (next : Scope → Rest → Term) → IsTooDeep a first → IsTooDeep a (λ rest. first (λ scope. next scope rest))
first_deep a first next deep = λ rest. deep (λ scope. next scope rest)

-- a scope that is changed alone
pub rescoped : (a b c : Site) (first : Rest → Term) (change : Scope → Scope) → Moved a first b (λ rest. rest (scope_in b))
    → c.above ≡ b.above → c.frames.items ≡ b.frames.items → length c.scope.items ≡ length b.scope.items → scope_in c ≡ change (scope_in b)
    → Moved a (λ rest. first (λ scope. rest (change scope))) c (λ rest. rest (scope_in c))
rescoped a b c first change moved above frames long scope = record {
  above = above ∙ moved.above;
  same = λ rest. moved.same (λ s. rest (change s)) ∙ ap (λ fs. around_all fs (rest (change (scope_in b)))) (sym frames) ∙ ap (λ s. inside c (rest s)) (sym scope);
  fits = record {
    level = omega (arith, moved.fits.level, above, ap (λ fs. length fs) frames);
    depth = omega (arith, moved.fits.depth, above, ap frames_depth frames);
    scope = omega (arith, moved.fits.scope, above, long, ap (λ fs. length fs) frames);
  };
}

-- a site without frames
pub site_fits : (a : Site) → a.frames.items ≡ [] → a.above ≤ term_limit → length a.scope.items ≤ 2 * a.above + 1 → Fits a
site_fits a none above scope = record {
  level = omega (arith, ap (λ fs. length fs) none);
  depth = omega (arith, ap frames_depth none, no_depth);
  scope = omega (arith, ap (λ fs. length fs) none);
}

-- one frame more, with one entry or two
pub pushed : (a b : Site) (f : Frame) (scope : Scope) → Fits a → level a + 1 + beside f ≤ term_limit
    → b.above ≡ a.above → b.frames.items ≡ a.frames.items ++ f ∷ [] → scope_in b ≡ scope → length b.scope.items ≤ length a.scope.items + 2
    → Moved a (λ rest. around f (rest scope)) b (λ rest. rest (scope_in b))
pushed a b f scope fits room above frames entries long = record {
  above = above;
  same = λ rest. sym (around_more a.frames.items f (rest scope)) ∙ ap (λ fs. around_all fs (rest scope)) (sym frames) ∙ ap (λ s. inside b (rest s)) (sym entries);
  fits = record {
    level = omega (arith, fits.level, above, counted);
    depth = omega (arith, fits.depth, fits.level, above, ap frames_depth frames, frames_more a.frames.items f);
    scope = omega (arith, fits.scope, above, counted);
  };
}
  where
    counted : length b.frames.items ≡ length a.frames.items + 1
    counted = ap (λ fs. length fs) frames ∙ length-append a.frames.items (f ∷ [])

pub pushed_one : (a b : Site) (f : Frame) (e : Option (Bor (List ℕ))) → Fits a → level a + 1 + beside f ≤ term_limit
    → b.above ≡ a.above → b.frames.items ≡ a.frames.items ++ f ∷ [] → b.scope.items ≡ a.scope.items ++ e ∷ []
    → Moved a (λ rest. around f (rest (entry_of e ∷ scope_in a))) b (λ rest. rest (scope_in b))
pushed_one a b f e fits room above frames entries =
    pushed a b f (entry_of e ∷ scope_in a) fits room above frames (ap scope_of entries ∙ scope_push a.scope.items e)
    (omega (arith, ap (λ l. length l) entries, length-append a.scope.items (e ∷ [])))

pub pushed_two : (a b : Site) (f : Frame) (mid : List (Option (Bor (List ℕ)))) (d e : Option (Bor (List ℕ))) → Fits a → level a + 1 + beside f ≤ term_limit
    → b.above ≡ a.above → b.frames.items ≡ a.frames.items ++ f ∷ [] → mid ≡ a.scope.items ++ d ∷ [] → b.scope.items ≡ mid ++ e ∷ []
    → Moved a (λ rest. around f (rest (entry_of e ∷ entry_of d ∷ scope_in a))) b (λ rest. rest (scope_in b))
pushed_two a b f mid d e fits room above frames first entries =
    pushed a b f (entry_of e ∷ entry_of d ∷ scope_in a) fits room above frames
    (ap scope_of entries ∙ scope_push mid e ∙ ap (λ l. entry_of e ∷ l) (ap scope_of first ∙ scope_push a.scope.items d))
    (omega (arith, ap (λ l. length l) entries, length-append mid (e ∷ []), ap (λ l. length l) first, length-append a.scope.items (d ∷ [])))

-- where what is made of any rest has no room, it is too deep
pub no_room : (a : Site) (made : Rest → Term) (k : ℕ) → ((rest : Rest) → k ≤ depth_of (made rest)) → term_limit < level a + k → IsTooDeep a made
no_room a made k deep over = λ rest. omega (arith, inside_deep a.frames.items (made rest), deep rest)

-- a term where a site goes on keeps the limit with it
pub inside_says : (a : Site) (t : Term) → Fits a → level a + depth_of t ≤ term_limit → a.above + depth_of (inside a t) ≤ term_limit
inside_says a t fits room = omega (arith, depth_inside a.frames.items t, fits.depth, room)
