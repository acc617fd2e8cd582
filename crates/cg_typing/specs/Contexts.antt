-- Contexts, marks and splits (the paper's splitting and weakening, section 3).
use Rattle.std.specs.Prelude.{◌≡◌, ◌≢◌, ℕ, zero, suc, ◌<◌, Bool, true, false, ◌||◌, IsTrue, Option, Some, None, List, [], ◌∷◌, length, nat_eq}
use Rattle.std.specs.List.{All}
use Rattle.cg_base.specs.declared.kind.Kinds.{Kinds}
use Rattle.cg_base.specs.Types.{Tau}
use Rattle.cg_core.specs.declared.derivation.Mark.{Mark}
use Rattle.cg_core.specs.declared.derivation.Mark.TheVariants.{Gone, Left, Right, Both, Seen}
use Rattle.cg_core.specs.declared.term.Seen.{Seen as Observer}
use Rattle.cg_kinds.specs.Kinds.{kinds, bang}

-- a context: the variables in order of binding, each present with a type or gone
abbrev pub Context : Type 0
Context = List (Option Tau)

-- an entry of a context; what is past its end is gone
abbrev pub look : Context → ℕ → Option Tau
look [] i = None
look (entry ∷ g) zero = entry
look (entry ∷ g) (suc i) = look g i

abbrev pub mark_at : List Mark → ℕ → Mark
mark_at [] i = Gone
mark_at (m ∷ ms) zero = m
mark_at (m ∷ ms) (suc i) = mark_at ms i

-- one more entry at the end
abbrev pub push : {A : Type 0} → List A → A → List A
push [] x = x ∷ []
push (y ∷ ys) x = y ∷ push ys x

-- what a mark leaves of an entry on the first side, and on the second
abbrev pub first_side : Mark → Option Tau → Option Tau
first_side Left entry = entry
first_side Both entry = entry
first_side Seen None = None
first_side Seen (Some t) = Some (bang t)
first_side Gone entry = None
first_side Right entry = None

abbrev pub second_side : Mark → Option Tau → Option Tau
second_side Right entry = entry
second_side Both entry = entry
second_side Seen entry = entry
second_side Gone entry = None
second_side Left entry = None

-- the two sides of a context
abbrev pub first : List Mark → Context → Context
first m [] = []
first [] (entry ∷ g) = []
first (m ∷ ms) (entry ∷ g) = first_side m entry ∷ first ms g

abbrev pub second : List Mark → Context → Context
second m [] = []
second [] (entry ∷ g) = []
second (m ∷ ms) (entry ∷ g) = second_side m entry ∷ second ms g

-- whether a variable is among the observers
abbrev pub among : ℕ → List Observer → Bool
among i [] = false
among i (o ∷ os) = nat_eq i o.var || among i os

-- the kinds of the type variables of the function at hand
module _ (vars : List Kinds) where
  abbrev pub drops : Tau → Bool
  drops t = (kinds vars t).drop

  abbrev pub shares : Tau → Bool
  shares t = (kinds vars t).share

  -- a mark fits an entry, which is among the observers or not: a gone entry is gone on both sides, a present one goes to
  -- one side, or to both where it may be shared, or is observed
  abbrev pub Fits : Bool → Mark → Option Tau → Type 0
  Fits observed Gone None = observed ≡ false
  Fits observed Gone (Some t) = ⊥
  Fits observed Left None = ⊥
  Fits observed Left (Some t) = observed ≡ false
  Fits observed Right None = ⊥
  Fits observed Right (Some t) = observed ≡ false
  Fits observed Both None = ⊥
  Fits observed Both (Some t) = IsTrue (shares t) × (observed ≡ false)
  Fits observed Seen None = ⊥
  Fits observed Seen (Some t) = observed ≡ true

  -- the marks split the context, and mark exactly the observers as seen, each of which is an entry
  pub record Splits (observers : List Observer) (marks : List Mark) (g : Context) : Type 0 where
    pub long : length marks ≡ length g
    pub fits : (i : ℕ) → i < length g → Fits (among i observers) (mark_at marks i) (look g i)
    pub observed : All (λ o. o.var < length g) observers

  -- every present entry may be dropped
  abbrev pub Drops : Context → Type 0
  Drops g = (i : ℕ) (t : Tau) → look g i ≡ Some t → IsTrue (drops t)

  -- the same but for one entry, which is used
  abbrev pub DropsBut : ℕ → Context → Type 0
  DropsBut used g = (i : ℕ) (t : Tau) → i ≢ used → look g i ≡ Some t → IsTrue (drops t)
