-- How often a term uses a variable, on every way through it: of two branches one is taken, and what a `let!` observes isn't used.
use Rattle.std.specs.Prelude.{◌≡◌, ℕ, ◌+◌, ◌<◌, Bool, true, false, cond, nat_eq, Option, Some, None, List, length}
use Rattle.cg_base.specs.declared.kind.Kinds.{Kinds}
use Rattle.cg_base.specs.Types.{Tau}
use Rattle.cg_core.specs.Derivations.{Derivation}
use Rattle.cg_core.specs.Kernels.{Function}
use Rattle.cg_core.specs.Terms.{Tree, term, Shape, var, unit, bool, lit, fun, op, app, lets, let_bang, if_else, con, case_of, esac, struct, member, take_field, put, cast, annot, Trees, none, more, Named, end, field, Note}
use Rattle.cg_typing.specs.Contexts.{Context, look, drops, shares, among}
use Rattle.cg_typing.specs.Rules.{Derives}

-- one part and then another use it so often, where each uses it as is said
pub record InTurn (First Second : ℕ → Type 0) (n : ℕ) : Type 0 where
  pub before : ℕ
  pub behind : ℕ
  pub first : First before
  pub second : Second behind
  pub sum : n ≡ before + behind

-- a first part that observes it, or not, and then another
abbrev pub InView : Bool → (ℕ → Type 0) → (ℕ → Type 0) → ℕ → Type 0
InView true First Second n = Second n
InView false First Second n = InTurn First Second n

abbrev mutual
  -- the term uses variable i just n times, whichever branches are taken
  pub Uses : {A : Type 0} → ℕ → Tree A → ℕ → Type 0
  Uses i (term note shape) n = UsesShape i shape n

  pub UsesShape : {A : Type 0} → ℕ → Shape A → ℕ → Type 0
  UsesShape i (var j) n = n ≡ cond (nat_eq i j) 1 0
  UsesShape i unit n = n ≡ 0
  UsesShape i (bool b) n = n ≡ 0
  UsesShape i (lit v) n = n ≡ 0
  UsesShape i (fun f args) n = n ≡ 0
  UsesShape i (op o ts) n = UsesTrees i ts n
  UsesShape i (app f x) n = InTurn (λ a. Uses i f a) (λ b. Uses i x b) n
  UsesShape i (lets binder e k) n = InTurn (λ a. Uses i e a) (λ b. Uses i k b) n
  UsesShape i (let_bang observers binder e k) n = InView (among i observers) (λ a. Uses i e a) (λ b. Uses i k b) n
  UsesShape i (if_else c x y) n = InTurn (λ a. Uses i c a) (λ b. Uses i x b × Uses i y b) n
  UsesShape i (con name e) n = Uses i e n
  UsesShape i (case_of e at binder x y) n = InTurn (λ a. Uses i e a) (λ b. Uses i x b × Uses i y b) n
  UsesShape i (esac at e) n = Uses i e n
  UsesShape i (struct fs) n = UsesFields i fs n
  UsesShape i (member e at) n = Uses i e n
  UsesShape i (take_field e at rest binder k) n = InTurn (λ a. Uses i e a) (λ b. Uses i k b) n
  UsesShape i (put e at x) n = InTurn (λ a. Uses i e a) (λ b. Uses i x b) n
  UsesShape i (cast e) n = Uses i e n
  UsesShape i (annot e a) n = Uses i e n

  pub UsesTrees : {A : Type 0} → ℕ → Trees A → ℕ → Type 0
  UsesTrees i none n = n ≡ 0
  UsesTrees i (more t ts) n = InTurn (λ a. Uses i t a) (λ b. UsesTrees i ts b) n

  pub UsesFields : {A : Type 0} → ℕ → Named A → ℕ → Type 0
  UsesFields i end n = n ≡ 0
  UsesFields i (field name e fs) n = InTurn (λ a. Uses i e a) (λ b. UsesFields i fs b) n

-- a present variable that can be neither dropped nor shared is used exactly once by what is derived, and one that is gone
-- is not used
pub record LinearVariablesAreUsedOnce : Type 0 where
  pub present : (functions : List Function) (vars : List Kinds) (g : Context) (d : Derivation) (direction : Option Tau) (c : Tree Note)
      → Derives functions vars g d direction c → (i : ℕ) (t : Tau) → look g i ≡ Some t → drops vars t ≡ false → shares vars t ≡ false → Uses i c 1
  pub gone : (functions : List Function) (vars : List Kinds) (g : Context) (d : Derivation) (direction : Option Tau) (c : Tree Note)
      → Derives functions vars g d direction c → (i : ℕ) → i < length g → look g i ≡ None → Uses i c 0
