-- The events of a certificate over a kernel, in the order in which its nodes are judged: what is tested, what the answer is where that
-- fails, and whether it holds (docs/LANGUAGE.md, "Certificates"). A node's name and marks are judged where it is reached, its other
-- conditions behind the parts that they speak of, and the size of its type last. The first event that fails is the fault of the
-- certificate. What is judged behind it means nothing, so the tests are total.
--
-- Types are those of plain typing; contexts are those that the certificate's marks leave.
use Rattle.std.specs.Prelude.{ℕ, suc, ◌+◌, Bool, true, false, ◌&&◌, not, IsTrue, Option, Some, None, List, [], ◌∷◌, ◌++◌, drop, ⊤}
use Rattle.cg_base.specs.declared.kind.Kinds.{Kinds}
use Rattle.cg_base.specs.declared.limit.Limit.TheVariants.{Ty}
use Rattle.cg_base.specs.declared.place.Place.{Place}
use Rattle.cg_base.specs.Types as types
use Rattle.cg_base.specs.Types.{Tau}
use Rattle.cg_cert.specs.declared.cert.Cert.{Cert}
use Rattle.cg_cert.specs.declared.cert.CertFun.{CertFun}
use Rattle.cg_cert.specs.declared.cert.CertNode.{CertNode}
use Rattle.cg_cert.specs.declared.fault.CertFault.{CertFault}
use Rattle.cg_cert.specs.declared.fault.CertFault.TheVariants.{C2, C3, Limit}
use Rattle.cg_core.specs.declared.derivation.Mark.{Mark}
use Rattle.cg_core.specs.declared.derivation.Node.{Node}
use Rattle.cg_core.specs.declared.derivation.Node.TheVariants as nodes
use Rattle.cg_core.specs.declared.term.Seen.{Seen}
use Rattle.cg_core.specs.Kernels.{Function, Body}
use Rattle.cg_core.specs.Terms.{Tree, term, Shape, var, unit, bool, lit, fun, op, app, lets, let_bang, if_else, con, case_of, esac, struct, member, take_field, put, cast, annot, Trees, none, more, Named, end, field}
use Rattle.cg_faults.specs.Events.{field_directions, next_direction, later_directions}
use Rattle.cg_faults.specs.Plain.{plain_at, observed, mentioned, plain, plain_in, is_made_of}
use Rattle.cg_faults.specs.Same.{same, same_name}
use Rattle.cg_kinds.specs.Kinds.{kinds, is_word}
use Rattle.cg_certcheck_def.specs.Tests.{same_node, is_present, drops_all, drops_but, splits}
use Rattle.cg_typing.specs.Accepted.{kinds_of_vars}
use Rattle.cg_typing.specs.Contexts.{Context, look, push, first, second, shares}
use Rattle.cg_typing.specs.Functions.{asked_by, are_good_arguments}
use Rattle.cg_typing.specs.Operators.{Sort, arithmetic, logic, sort_of, takes}
use Rattle.cg_typing.specs.Parts.{is_arrow, taken_by, given_by, is_read_only, widens, field_in, alternative_in, held, is_there, is_left, may_be_put_over, with_part, is_last, has_word_arrays, in_range, is_small_enough}
use Rattle.cg_typing.specs.Rules.{is_literal, second_branch}
use Rattle.cg_typing.specs.Trees.{first_marks, later_marks}

-- an event: what is answered where it fails, and whether it holds
pub data Event : Type 0 where
  event : (fault : CertFault) (holds : Bool) → Event

-- a node's row, and that a node or a name stands where it has to
abbrev pub row : ℕ → Bool → Event
row n holds = event (C2 n) holds

abbrev pub stands : ℕ → Bool → Event
stands n holds = event (C3 n) holds

abbrev pub within : Tau → Event
within t = event (Limit Ty) (is_small_enough t)

-- ---- the nodes of a certificate that are left

abbrev pub is_some : List CertNode → Bool
is_some [] = false
is_some (node ∷ later) = true

abbrev pub name_at : List CertNode → Node
name_at [] = nodes.Var
name_at (node ∷ later) = node.node

abbrev pub strings_at : List CertNode → List (List Mark)
strings_at [] = []
strings_at (node ∷ later) = node.marks

abbrev pub marks_next : List CertNode → List Mark
marks_next ns = first_marks (strings_at ns)

abbrev pub behind : List CertNode → List CertNode
behind [] = []
behind (node ∷ later) = later

-- ---- how many nodes a term has

abbrev mutual
  pub size : Tree Place → ℕ
  size (term place shape) = suc (size_below shape)

  -- below its node
  pub size_below : Shape Place → ℕ
  size_below (op o ts) = sizes ts
  size_below (app f x) = size f + size x
  size_below (lets binder e k) = size e + size k
  size_below (let_bang observers binder e k) = size e + size k
  size_below (if_else c x y) = size c + (size x + size y)
  size_below (con name e) = size e
  size_below (case_of e at binder x y) = size e + (size x + size y)
  size_below (esac at e) = size e
  size_below (struct fs) = field_sizes fs
  size_below (member e at) = size e
  size_below (take_field e at rest binder k) = size e + size k
  size_below (put e at x) = size e + size x
  size_below (cast e) = size e
  size_below (annot e a) = size e
  size_below leaf = 0

  pub sizes : Trees Place → ℕ
  sizes none = 0
  sizes (more t ts) = size t + sizes ts

  pub field_sizes : Named Place → ℕ
  field_sizes end = 0
  field_sizes (field name e fs) = size e + field_sizes fs

-- ---- reaching a node: that there is one, and its name and marks

abbrev pub reached : ℕ → List CertNode → Node → Bool → List Event
reached n ns node marked = stands n (is_some ns) ∷ (row n (same_node (name_at ns) node && marked) ∷ [])

abbrev pub no_strings : List CertNode → Bool
no_strings ns = no_more (strings_at ns)
  where
    no_more : List (List Mark) → Bool
    no_more [] = true
    no_more (string ∷ strings) = false

-- T1 where a synthesised type is checked
abbrev pub meets : Option Tau → Tau → Bool
meets None t = true
meets (Some wanted) t = same wanted t

-- a literal against a type
abbrev pub is_number : Option ℕ → Option Tau → Bool
is_number value None = false
is_number value (Some t) = in_range value t

abbrev pub leaf_reached : ℕ → List CertNode → Node → List Event
leaf_reached n ns node = reached n ns node (no_strings ns)

module _ (vars : List Kinds) where
  -- one mark string, which splits the context with these observers
  abbrev pub one_string : List Seen → List (List Mark) → Context → Bool
  one_string observers (string ∷ []) g = splits vars observers string g
  one_string observers strings g = false

  -- the mark strings of a record's fields: each but the last field splits what is left
  abbrev pub field_strings : Named Place → List (List Mark) → Context → Bool
  field_strings (field name e (field later x fs)) (string ∷ strings) g = splits vars [] string g && field_strings (field later x fs) strings (second string g)
  field_strings (field name e (field later x fs)) [] g = false
  field_strings fs [] g = true
  field_strings fs (string ∷ strings) g = false

  abbrev pub split_reached : ℕ → List CertNode → Node → List Seen → Context → List Event
  split_reached n ns node observers g = reached n ns node (one_string observers (strings_at ns) g)

  -- a number that stands left of an operator: it is reached before the guide, and judged behind it
  abbrev pub guided_reached : ℕ → List CertNode → Context → List Event
  guided_reached n ns g = leaf_reached n ns nodes.Lit ++ (row n (drops_all vars g) ∷ [])

-- and its events where it is judged, by its guide's type
abbrev pub guided_number : ℕ → Option ℕ → Tau → List Event
guided_number n value t = row n (in_range value t) ∷ (within t ∷ [])

-- the number that a literal is
abbrev pub value_of : Tree Place → Option ℕ
value_of (term place (lit value)) = value
value_of e = None

-- ---- operators, over the events of their operands in a direction

abbrev pub Way : Type 0
Way = Option Tau → List Event

abbrev pub unary_events : Sort → Option Tau → ℕ → Tau → Way → List Event
unary_events logic direction n a operand = operand (Some types.bool) ++ (row n (meets direction types.bool) ∷ [])
unary_events arithmetic (Some t) n a operand = row n (is_word t) ∷ operand (Some t)
unary_events arithmetic None n a operand = operand None ++ (row n (is_word a) ∷ [])
unary_events sort direction n a operand = operand None ++ (row n (takes sort a && meets direction types.bool) ∷ [])

-- the left operand is a literal or not; where it is one and the right operand is the guide, it is reached before that, and judged behind it
abbrev pub binary_events : Sort → Option Tau → ℕ → Bool → Tau → Tau → Way → Way → List Event → (Tau → List Event) → List Event
binary_events logic direction n literal a b left right reaches number =
    left (Some types.bool) ++ (right (Some types.bool) ++ (row n (meets direction types.bool) ∷ []))
binary_events arithmetic (Some t) n literal a b left right reaches number = row n (is_word t) ∷ (left (Some t) ++ right (Some t))
binary_events arithmetic None n true a b left right reaches number = reaches ++ (right None ++ (row n (is_word b) ∷ number b))
binary_events arithmetic None n false a b left right reaches number = left None ++ (row n (is_word a) ∷ right (Some a))
binary_events sort direction n true a b left right reaches number =
    reaches ++ (right None ++ (row n (takes sort b) ∷ (number b ++ (row n (meets direction types.bool) ∷ []))))
binary_events sort direction n false a b left right reaches number =
    left None ++ (row n (takes sort a) ∷ (right (Some a) ++ (row n (meets direction types.bool) ∷ [])))

-- T1 of a record that is checked
abbrev pub is_record : Option Tau → Named Place → Bool
is_record None fs = true
is_record (Some t) fs = is_made_of t fs

-- the alternative of a constructor
abbrev pub is_alternative : List ℕ → Option Tau → Bool
is_alternative name None = false
is_alternative name (Some t) = is_left (alternative_in name t)

abbrev pub alternative_held : List ℕ → Option Tau → Tau
alternative_held name None = types.unit
alternative_held name (Some t) = held (alternative_in name t)

abbrev pub is_cast : Option Tau → Tau → Bool
is_cast None t = false
is_cast (Some wanted) t = widens t wanted

module _ (functions : List Function) (vars : List Kinds) where
  abbrev mutual
    -- the events of a term in a context that the marks left, and a plain one that tells types, in a direction, over the nodes that are left,
    -- of which the next one has this number
    pub events : Context → List Tau → Option Tau → List CertNode → ℕ → Tree Place → List Event
    events g p direction ns n (term place shape) =
        events_shape g p direction ns n shape ++ (within (plain_in functions p direction (term place shape)) ∷ [])

    pub events_shape : Context → List Tau → Option Tau → List CertNode → ℕ → Shape Place → List Event
    -- leaves: what is present and isn't used may be dropped
    events_shape g p direction ns n (var i) =
        leaf_reached n ns nodes.Var ++ (row n (is_present (look g i) && (drops_but vars i g && meets direction (plain_at p i))) ∷ [])
    events_shape g p direction ns n unit = leaf_reached n ns nodes.Unit ++ (row n (drops_all vars g && meets direction types.unit) ∷ [])
    events_shape g p direction ns n (bool b) = leaf_reached n ns nodes.Bool ++ (row n (drops_all vars g && meets direction types.bool) ∷ [])
    events_shape g p direction ns n (lit value) = leaf_reached n ns nodes.Lit ++ (row n (drops_all vars g && is_number value direction) ∷ [])
    events_shape g p direction ns n (fun f args) =
        leaf_reached n ns nodes.Fun
        ++ (row n (drops_all vars g && (are_good_arguments vars (asked_by functions f) args && meets direction (mentioned functions f args))) ∷ [])
    -- operators
    events_shape g p direction ns n (op o (more x none)) =
        leaf_reached n ns nodes.Op ++ unary_events (sort_of o) direction n (plain functions p x) (λ way. events g p way (behind ns) (suc n) x)
    events_shape g p direction ns n (op o (more l (more r none))) =
        split_reached vars n ns nodes.Op [] g ++ binary_events (sort_of o) direction n (is_literal l) (plain functions p l) (plain functions p r)
        (λ way. events (first (marks_next ns) g) p way (behind ns) (suc n) l)
        (λ way. events (second (marks_next ns) g) p way (drop (size l) (behind ns)) (suc n + size l) r)
        (guided_reached vars (suc n) (behind ns) (first (marks_next ns) g)) (guided_number (suc n) (value_of l))
    events_shape g p direction ns n (op o ts) = row n false ∷ []
    -- a call
    events_shape g p direction ns n (app f x) =
        split_reached vars n ns nodes.App [] g ++ (events (first (marks_next ns) g) p None (behind ns) (suc n) f
        ++ (row n (is_arrow (plain functions p f))
        ∷ (events (second (marks_next ns) g) p (Some (taken_by (plain functions p f))) (drop (size f) (behind ns)) (suc n + size f) x
        ++ (row n (meets direction (given_by (plain functions p f))) ∷ []))))
    -- bindings
    events_shape g p direction ns n (lets binder e k) =
        split_reached vars n ns nodes.Let [] g ++ (events (first (marks_next ns) g) p None (behind ns) (suc n) e
        ++ events (push (second (marks_next ns) g) (Some (plain functions p e))) (push p (plain functions p e)) direction (drop (size e) (behind ns)) (suc n + size e) k)
    events_shape g p direction ns n (let_bang observers binder e k) =
        split_reached vars n ns nodes.LetBang observers g ++ (events (first (marks_next ns) g) (observed observers p) None (behind ns) (suc n) e
        ++ (row n (kinds vars (plain functions (observed observers p) e)).escape
        ∷ events (push (second (marks_next ns) g) (Some (plain functions (observed observers p) e))) (push p (plain functions (observed observers p) e)) direction
        (drop (size e) (behind ns)) (suc n + size e) k))
    -- a condition
    events_shape g p direction ns n (if_else c x y) =
        split_reached vars n ns nodes.If [] g ++ (events (first (marks_next ns) g) p (Some types.bool) (behind ns) (suc n) c
        ++ (events (second (marks_next ns) g) p direction (drop (size c) (behind ns)) (suc n + size c) x
        ++ events (second (marks_next ns) g) p (second_branch direction (plain functions p x)) (drop (size c + size x) (behind ns)) (suc n + (size c + size x)) y))
    -- a constructor
    events_shape g p direction ns n (con name e) =
        leaf_reached n ns nodes.Con ++ (row n (is_alternative name direction) ∷ events g p (Some (alternative_held name direction)) (behind ns) (suc n) e)
    -- matches
    events_shape g p direction ns n (case_of e at binder x y) =
        split_reached vars n ns nodes.Case [] g ++ (events (first (marks_next ns) g) p None (behind ns) (suc n) e
        ++ (row n (is_left (alternative_in at.name (plain functions p e)))
        ∷ (events (push (second (marks_next ns) g) (Some (held (alternative_in at.name (plain functions p e)))))
        (push p (held (alternative_in at.name (plain functions p e)))) direction (drop (size e) (behind ns)) (suc n + size e) x
        ++ events (push (second (marks_next ns) g) (Some (with_part at.name true (plain functions p e)))) (push p (with_part at.name true (plain functions p e)))
        (second_branch direction (plain functions (push p (held (alternative_in at.name (plain functions p e)))) x))
        (drop (size e + size x) (behind ns)) (suc n + (size e + size x)) y)))
    events_shape g p direction ns n (esac at e) =
        leaf_reached n ns nodes.Esac ++ (events g p None (behind ns) (suc n) e
        ++ (row n (is_left (alternative_in at.name (plain functions p e)) && (is_last at.name (plain functions p e)
        && meets direction (held (alternative_in at.name (plain functions p e))))) ∷ []))
    -- records
    events_shape g p direction ns n (struct fs) =
        reached n ns nodes.Struct (field_strings vars fs (strings_at ns) g) ++ (row n (is_record direction fs)
        ∷ field_events g p (field_directions direction) (strings_at ns) (behind ns) (suc n) fs)
    events_shape g p direction ns n (member e at) =
        leaf_reached n ns nodes.Member ++ (events g p None (behind ns) (suc n) e
        ++ (row n (is_left (field_in at.name (plain functions p e)) && (shares vars (plain functions p e)
        && meets direction (held (field_in at.name (plain functions p e))))) ∷ []))
    events_shape g p direction ns n (take_field e at rest binder k) =
        split_reached vars n ns nodes.Take [] g ++ (events (first (marks_next ns) g) p None (behind ns) (suc n) e
        ++ (row n (is_left (field_in at.name (plain functions p e)) && not (is_read_only (plain functions p e)))
        ∷ events (push (push (second (marks_next ns) g) (Some (with_part at.name true (plain functions p e)))) (Some (held (field_in at.name (plain functions p e)))))
        (push (push p (with_part at.name true (plain functions p e))) (held (field_in at.name (plain functions p e)))) direction
        (drop (size e) (behind ns)) (suc n + size e) k))
    events_shape g p direction ns n (put e at x) =
        split_reached vars n ns nodes.Put [] g ++ (events (first (marks_next ns) g) p None (behind ns) (suc n) e
        ++ (row n (is_there (field_in at.name (plain functions p e)) && (not (is_read_only (plain functions p e))
        && may_be_put_over vars (field_in at.name (plain functions p e))))
        ∷ (events (second (marks_next ns) g) p (Some (held (field_in at.name (plain functions p e)))) (drop (size e) (behind ns)) (suc n + size e) x
        ++ (row n (meets direction (with_part at.name false (plain functions p e))) ∷ []))))
    -- a cast, and an annotation
    events_shape g p direction ns n (cast e) =
        leaf_reached n ns nodes.Cast ++ (row n (is_present direction) ∷ (events g p None (behind ns) (suc n) e
        ++ (row n (is_cast direction (plain functions p e)) ∷ [])))
    events_shape g p direction ns n (annot e a) =
        leaf_reached n ns nodes.Annot ++ (row n (has_word_arrays a.ty) ∷ (events g p (Some a.ty) (behind ns) (suc n) e
        ++ (row n (meets direction a.ty) ∷ [])))

    -- fields in their order, over the mark strings that are left
    pub field_events : Context → List Tau → List (Option Tau) → List (List Mark) → List CertNode → ℕ → Named Place → List Event
    field_events g p directions strings ns n end = []
    field_events g p directions strings ns n (field name e end) = events g p (next_direction directions) ns n e
    field_events g p directions strings ns n (field name e (field later x fs)) =
        events (first (first_marks strings) g) p (next_direction directions) ns n e
        ++ field_events (second (first_marks strings) g) p (later_directions directions) (later_marks strings) (drop (size e) ns) (n + size e) (field later x fs)

-- ---- functions and kernels

abbrev pub is_over : {A : Type 0} → List A → Bool
is_over [] = true
is_over (x ∷ xs) = false

-- the next function of a certificate has this name; its nodes, and the later functions
abbrev pub is_named : List CertFun → List ℕ → Bool
is_named [] name = false
is_named (listed ∷ later) name = same_name listed.name name

abbrev pub nodes_next : List CertFun → List CertNode
nodes_next [] = []
nodes_next (listed ∷ later) = listed.nodes

abbrev pub funs_behind : List CertFun → List CertFun
funs_behind [] = []
funs_behind (listed ∷ later) = later

-- the events of a signature: T4 and T14
abbrev pub signature_event : ℕ → Function → Event
signature_event n f = row n (is_arrow f.ty.ty && has_word_arrays f.ty.ty)

-- the events of a body in the context of the argument alone, over the nodes of its function: no node is left behind it
abbrev pub body_events : List Function → Function → Tree Place → List CertNode → ℕ → List Event
body_events functions f body ns n =
    events functions (kinds_of_vars f) (Some (taken_by f.ty.ty) ∷ []) (taken_by f.ty.ty ∷ []) (Some (given_by f.ty.ty)) ns n body
    ++ (stands (n + size body) (is_over (drop (size body) ns)) ∷ [])

-- the events of a function's body, if it has one, behind its name, and then those of the later functions
abbrev pub maybe_body_events : List Function → Function → Option Body → List CertFun → ℕ → (List CertFun → ℕ → List Event) → List Event
maybe_body_events functions f None funs n later = later funs n
maybe_body_events functions f (Some body) funs n later =
    stands n (is_named funs f.at.name) ∷ (body_events functions f body.term (nodes_next funs) n ++ later (funs_behind funs) (n + size body.term))

-- the events of functions in the order of their signatures: each signature stands before its function's name, and behind the last one
-- no function of the certificate is left
abbrev pub function_events : List Function → List Function → List CertFun → ℕ → List Event
function_events functions [] funs n = stands n (is_over funs) ∷ []
function_events functions (f ∷ fs) funs n =
    signature_event n f ∷ maybe_body_events functions f f.body funs n (λ rest m. function_events functions fs rest m)

-- the events of a certificate over a kernel
abbrev pub cert_events : List Function → Cert → List Event
cert_events functions cert = function_events functions functions cert.funs 1

-- no event fails
abbrev pub AllHold : List Event → Type 0
AllHold [] = ⊤
AllHold (event fault holds ∷ later) = IsTrue holds × AllHold later

-- the first that fails
abbrev pub first_failing : List Event → Option CertFault
first_failing [] = None
first_failing (event fault true ∷ later) = first_failing later
first_failing (event fault false ∷ later) = Some fault
