-- A walk down through a graph: how far each node is, how many of its mentions were followed, the way down, and the
-- order up to here.
use Rattle.std.specs.Prelude.{◌≡◌, ℕ, ◌-◌, ◌<◌, List, [], ◌∷◌, ◌++◌, length, get_or, slice_get, set, take, replicate, sum_by, Some, Result, Ok, Err, ⊤}
use Rattle.std.specs.Global.{Vec}
use Rattle.std.specs.List.{All, Contains}
use Rattle.cg_graphs.specs.declared.walk.Mark.{Mark}
use Rattle.cg_graphs.specs.declared.walk.Mark.TheVariants.{New, Open, Done}
use Rattle.cg_graphs.specs.declared.walk.Walk.{Walk}
use Rattle.cg_graphs.specs.declared.fault.NoOrder.{NoOrder}
use Rattle.cg_graphs.specs.declared.fault.NoOrder.TheVariants.{Circle, Memory}
use Rattle.cg_graphs.specs.Circles.{Mentions, Reaches, IsOrder}

pub record State : Type 0 where
  pub marks : List Mark
  pub nexts : List ℕ
  pub way : List ℕ
  pub order : List ℕ

abbrev pub state : Walk → State
state w = record { marks = w.marks.items; nexts = w.nexts.items; way = w.way.items; order = w.order.items }

-- how far a node is
abbrev pub mark_at : List Mark → ℕ → Mark
mark_at marks i = get_or marks i New

-- how many steps a node is from its place in the order
abbrev pub steps : Mark → ℕ
steps New = 2
steps Open = 1
steps Done = 0

abbrev pub weight : State → ℕ
weight s = sum_by steps s.marks

-- a node counts where it is in the order
abbrev pub counted : Mark → ℕ
counted New = 0
counted Open = 0
counted Done = 1

-- these nodes are in the order
abbrev pub AreDone : List Mark → List ℕ → Type 0
AreDone marks nodes = All (λ i. mark_at marks i ≡ Done) nodes

-- a walk before its first step
unfoldable pub fresh : ℕ → State
fresh n = record { marks = replicate n New; nexts = replicate n 0; way = []; order = [] }

-- a node is put on the way
unfoldable pub opened : State → ℕ → State
opened s i = record { marks = set s.marks i Open; nexts = s.nexts; way = s.way ++ i ∷ []; order = s.order }

-- so many of a node's mentions were followed
unfoldable pub seen_to : State → ℕ → ℕ → State
seen_to s i n = record { marks = s.marks; nexts = set s.nexts i n; way = s.way; order = s.order }

-- the last node of the way is put in the order
unfoldable pub finished : State → ℕ → State
finished s i = record { marks = set s.marks i Done; nexts = s.nexts; way = take (length s.way - 1) s.way; order = s.order ++ i ∷ [] }

-- what a walk keeps: the nodes on the way are those that are open, and each reaches those behind it; the nodes that are
-- done are in the order, each behind what it mentions; and what was followed of a node is done
pub record IsWalk (edges : List (List ℕ)) (s : State) : Type 0 where
  pub size : length s.marks ≡ length edges
  pub places : length s.nexts ≡ length edges
  pub listed : (i : ℕ) → mark_at s.marks i ≡ Done → Contains s.order i
  pub behind : (k i j : ℕ) → slice_get s.order k ≡ Some i → Mentions edges i j → Contains (take k s.order) j
  pub count : length s.order ≡ sum_by counted s.marks
  pub on_way : (i : ℕ) → mark_at s.marks i ≡ Open → Contains s.way i
  pub is_open : (p : ℕ) → p < length s.way → mark_at s.marks (get_or s.way p 0) ≡ Open
  pub apart : (p q : ℕ) → p < q → q < length s.way → get_or s.way p 0 ≡ get_or s.way q 0 → ⊥
  pub path : (p q : ℕ) → p < q → q < length s.way → Reaches edges (get_or s.way p 0) (get_or s.way q 0)
  pub followed : (i : ℕ) → AreDone s.marks (take (get_or s.nexts i 0) (get_or edges i []))

-- no node is new that wasn't
abbrev pub StaysMet : State → State → Type 0
StaysMet old new = (i : ℕ) → mark_at new.marks i ≡ New → mark_at old.marks i ≡ New

-- a step of a walk, or a node that reaches itself
pub record IsStep (edges : List (List ℕ)) (old new : State) : Type 0 where
  pub kept : IsWalk edges new
  pub less : weight new < weight old
  pub met : StaysMet old new

abbrev pub StepSays : List (List ℕ) → State → State → Result Unit NoOrder → Type 0
StepSays edges old new (Ok _) = IsStep edges old new
StepSays edges old new (Err (Circle i)) = Reaches edges i i
StepSays edges old new (Err Memory) = ⊤

-- all that is reached from a node is done, or a node reaches itself
pub record IsDown (edges : List (List ℕ)) (root : ℕ) (old new : State) : Type 0 where
  pub kept : IsWalk edges new
  pub back : new.way ≡ []
  pub met : StaysMet old new
  pub here : mark_at new.marks root ≡ New → ⊥

abbrev pub DownSays : List (List ℕ) → ℕ → State → State → Result Unit NoOrder → Type 0
DownSays edges root old new (Ok _) = IsDown edges root old new
DownSays edges root old new (Err (Circle i)) = Reaches edges i i
DownSays edges root old new (Err Memory) = ⊤

-- an order of all nodes, or a node that reaches itself
abbrev pub WalkSays : List (List ℕ) → Result (Vec ℕ) NoOrder → Type 0
WalkSays edges (Ok order) = IsOrder edges order.items
WalkSays edges (Err (Circle i)) = Reaches edges i i
WalkSays edges (Err Memory) = ⊤
