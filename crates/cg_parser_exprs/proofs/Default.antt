-- At the symbols that a match does not name.
use Rattle.std.proofs.Common.{◌≡◌, ℕ, List, Option, refl, ap, ◌∙◌, sym}
use Rattle.std.specs.Prelude.{IfOk, Result, Ok, Err}
use Rattle.cg_base.specs.declared.place.Place.{Place}
use Rattle.cg_surface.specs.Exprs.{Expr}
use Rattle.cg_surface.specs.Written.{Writtens}
use Rattle.cg_parser_symbols.specs.Views.{symbol_view}
use Rattle.cg_parser_symbols.specs.declared.symbol.Symbol.{Symbol}
use Rattle.cg_parser_symbols.specs.declared.symbol.Symbol.TheVariants.{Dot, Brace, Bracket}
use Rattle.cg_parser_exprs_def.specs.Machine as machine
use Rattle.cg_parser_build.specs.Bounded.{bounded}
use Rattle.cg_parser_exprs_def.specs.Held.{Held, Within, types, patterns}
use Rattle.cg_parser_exprs.specs.Behind.{behind}
use Rattle.cg_parser_exprs_frames.specs.declared.frame.Mode.{Mode}

-- behind an atom, at neither a dot nor a brace
pub default : (s : Symbol) (p : Place) (e : Option Expr) (fs : List Within) → (s ≡ Dot → ⊥) → (s ≡ Brace → ⊥) → machine.have types patterns bounded (symbol_view s) p e fs ≡ behind (symbol_view s) p e fs
default Dot p e fs no_dot no_brace = absurd (no_dot refl)
default Brace p e fs no_dot no_brace = absurd (no_brace refl)
default s p e fs no_dot no_brace = refl

-- behind a name, at no bracket
pub at_name : (s : Symbol) (p q : Place) (n : List ℕ) (args : Option Writtens) (e : Option Expr) (fs : List Within) → (s ≡ Bracket → ⊥) → args ≡ bounded.no_args → e ≡ bounded.name q n args → machine.after_lower types patterns bounded (symbol_view s) p q n fs ≡ machine.have types patterns bounded (symbol_view s) p e fs
at_name s p q n args e fs no_bracket none is = plain s no_bracket ∙ ap (λ u. machine.have types patterns bounded (symbol_view s) p u fs) (ap (λ us. bounded.name q n us) (sym none) ∙ sym is)
  where
    plain : (y : Symbol) → (y ≡ Bracket → ⊥) → machine.after_lower types patterns bounded (symbol_view y) p q n fs ≡ machine.have types patterns bounded (symbol_view y) p (bounded.name q n bounded.no_args) fs
    plain Bracket h = absurd (h refl)
    plain y h = refl

-- what is answered, of what is the same
pub answered : {E : Type 0} (r : Result Mode E) (at : Mode → Held) (m n : Held) → IfOk r (λ k. at k ≡ n) → m ≡ n → IfOk r (λ k. at k ≡ m)
answered (Ok k) at m n h is = h ∙ sym is
answered (Err x) at m n h is = h
