-- The occurrences of a variable in a whole body, by their paths, and which two of them clash.
use Rattle.std.specs.Prelude.{◌≡◌, ◌≢◌, ◌⊎◌, ◌<◌, ℕ, false, Option, Some, None, List, [], ◌∷◌, ◌++◌, slice_get}
use Rattle.cg_base.specs.declared.place.Place.{Place}
use Rattle.cg_core.specs.declared.term.Seen.{Seen}
use Rattle.cg_core.specs.Kernels.{Function}
use Rattle.cg_core.specs.Terms.{Tree, Shape, var, let_bang, if_else, case_of}
use Rattle.cg_faults.specs.Sites.{Path, Variable, Entry, Site, shape_inside, down}

-- a touch of a variable: a use of it, or the observer of this number at a `let!`
pub record Touch : Type 0 where
  pub path : Path
  pub observer : Option ℕ

-- one path stands before another in reading order: a node before its parts, and the parts in order
abbrev pub PathBefore : Path → Path → Type 0
PathBefore [] (j ∷ q) = Unit {0}
PathBefore (i ∷ p) (j ∷ q) = (i < j) ⊎ ((i ≡ j) × PathBefore p q)
PathBefore p q = ⊥

-- and one observer before another at one `let!`
abbrev pub NumberBefore : Option ℕ → Option ℕ → Type 0
NumberBefore (Some n) (Some m) = n < m
NumberBefore _ _ = ⊥

abbrev pub TouchBefore : Touch → Touch → Type 0
TouchBefore t u = PathBefore t.path u.path ⊎ ((t.path ≡ u.path) × NumberBefore t.observer u.observer)

-- a choice: what has branches
abbrev pub IsChoice : Shape Place → Type 0
IsChoice (if_else c x y) = Unit {0}
IsChoice (case_of e at binder x y) = Unit {0}
IsChoice _ = ⊥

-- the numbers of two different branches
abbrev pub AreBranches : ℕ → ℕ → Type 0
AreBranches i j = (0 < i) × (0 < j) × (i ≢ j)

-- in a body: the site of its own node
module _ (functions : List Function) (root : Site) where
  abbrev pub Stands : Path → Site → Type 0
  Stands path s = down functions (Some root) path ≡ Some s

  -- the variable at a position of a site's scope, where no `let!` observes it
  pub record IsUnobserved (x : Variable) (s : Site) (i : ℕ) : Type 0 where
    pub entry : Entry
    pub in_scope : slice_get s.scope i ≡ Some entry
    pub variable : entry.variable ≡ x
    pub unobserved : entry.observed ≡ false

  -- a use: the variable itself, in no first part of a `let!` that observes it
  pub record IsUse (x : Variable) (path : Path) : Type 0 where
    pub site : Site
    pub position : ℕ
    pub stands : Stands path site
    pub is : shape_inside site.node ≡ var position
    pub occurs : IsUnobserved x site position

  -- a sighting: an observer of a `let!`, which stands in no such first part
  pub record IsSighting (x : Variable) (path : Path) (n : ℕ) (observer : Seen) : Type 0 where
    pub site : Site
    pub observers : List Seen
    pub binder : Place
    pub value : Tree Place
    pub body : Tree Place
    pub stands : Stands path site
    pub is : shape_inside site.node ≡ let_bang observers binder value body
    pub among : slice_get observers n ≡ Some observer
    pub occurs : IsUnobserved x site observer.var

  abbrev pub IsTouchAt : Variable → Path → Option ℕ → Type 0
  IsTouchAt x path None = IsUse x path
  IsTouchAt x path (Some n) = (observer : Seen) × IsSighting x path n observer

  abbrev pub IsTouch : Variable → Touch → Type 0
  IsTouch x t = IsTouchAt x t.path t.observer

  -- there is a use at a path or below it
  abbrev pub HasUse : Variable → Path → Type 0
  HasUse x path = (below : Path) × IsUse x (path ++ below)

  -- two touches stand in different branches of one node
  pub record AreInBranches (t u : Touch) : Type 0 where
    pub above : Path
    pub one : ℕ
    pub other : ℕ
    pub first : Path
    pub second : Path
    pub site : Site
    pub is_first : t.path ≡ above ++ one ∷ first
    pub is_second : u.path ≡ above ++ other ∷ second
    pub branches : AreBranches one other
    pub stands : Stands above site
    pub choice : IsChoice (shape_inside site.node)

  -- the earlier is a sighting, and the later stands in the second part of the same `let!`
  pub record IsInSecondPart (t u : Touch) : Type 0 where
    pub number : ℕ
    pub below : Path
    pub sighting : t.observer ≡ Some number
    pub second : u.path ≡ t.path ++ 1 ∷ below

  -- both are sightings of one `let!`
  pub record AreOfOne (t u : Touch) : Type 0 where
    pub number : ℕ
    pub other : ℕ
    pub earlier : t.observer ≡ Some number
    pub later : u.observer ≡ Some other
    pub one : t.path ≡ u.path

  -- an earlier touch and a later one clash
  abbrev pub Clash : Touch → Touch → Type 0
  Clash t u = (AreInBranches t u ⊎ (IsInSecondPart t u ⊎ AreOfOne t u)) → ⊥

  -- an earlier touch of the variable clashes with this one
  pub record IsClashing (x : Variable) (u : Touch) : Type 0 where
    pub earlier : Touch
    pub touches : IsTouch x earlier
    pub before : TouchBefore earlier u
    pub clash : Clash earlier u
