-- What the machine has read to its end is spelled.
use Rattle.std.proofs.Common.{◌≡◌, ◌≢◌, ℕ, List, [], ◌∷◌, ◌++◌, refl, sym, ap, ◌∙◌, subst, true, Option, Some, None}
use Rattle.std.specs.Prelude.{codes, ⊤}
use Rattle.cg_base.proofs.Spans.{either_way}
use Rattle.cg_ctree.specs.declared.tree.CDecl.{CDecl}
use Rattle.cg_ctree.specs.declared.tree.CStruct.{CStruct}
use Rattle.cg_ctree.specs.Spells.{Reading, ◌then◌, token, mark, braced, ReadsLine, ReadsStructName, ReadsLocals, ReadsStruct, ReadsFunction, Item, of_struct, of_function, ReadsItem, ReadsItems, structs_of, functions_of, SpellsTokens}
use Rattle.cg_ctree.specs.Tokens.{line, first_line, second_line, Lexeme}
use Rattle.cg_ctree.specs.Trees.{Function, Program}
use Rattle.cg_cread_parts.specs.Declarations.{row_is_whole}
use Rattle.cg_cread_parts.specs.Heads.{head_end, head_struct, head_is_whole}
use Rattle.cg_cread_parts.specs.Symbols.{Symbol, begin, end, semicolon, first_include, second_include, symbol_of}
use Rattle.cg_cread_parts.specs.declared.declaration.Declaration.TheVariants.{Wanted}
use Rattle.cg_cread_parts.specs.declared.declaration.Row.{Row}
use Rattle.cg_cread_parts.specs.declared.head.Head.{Head}
use Rattle.cg_cread_parts.specs.declared.head.Signature.{Signature}
use Rattle.cg_cread_parts.proofs.DeclarationSound.{RowRead, HeadRead, HeadIs, StructIs, declaration_holds, row_holds, head_holds, head_is, head_struct_is}
use Rattle.cg_cread_parts.proofs.Known.{Means, means, seen}
use Rattle.cg_cread_parts.proofs.Lists.{front}
use Rattle.cg_cread.specs.Bodies.{Body, Closed, body_step, body_end, body_is_closed}
use Rattle.cg_cread.specs.Machine.{State, Start, First, Second, Between, InHead, InMembers, MembersClosed, InBody, Failed, nothing, with_struct, with_function, on_start, on_first, on_item, defined, members, declared, on_head, structured, on_members, on_struct, closed, in_body, at, step, finish}
use Rattle.cg_cread.proofs.BodySound.{BodyRead, body_holds, whole_read}
use Rattle.cg_cread.proofs.Steps.{run}

-- ---- items

structs_more : (is : List Item) (s : CStruct) → structs_of (is ++ of_struct s ∷ []) ≡ structs_of is ++ s ∷ []
structs_more [] s = refl
structs_more (of_struct x ∷ is) s = ap (λ z. x ∷ z) (structs_more is s)
structs_more (of_function f ∷ is) s = structs_more is s

structs_same : (is : List Item) (f : Function) → structs_of (is ++ of_function f ∷ []) ≡ structs_of is
structs_same [] f = refl
structs_same (of_struct x ∷ is) f = ap (λ z. x ∷ z) (structs_same is f)
structs_same (of_function g ∷ is) f = structs_same is f

functions_more : (is : List Item) (f : Function) → functions_of (is ++ of_function f ∷ []) ≡ functions_of is ++ f ∷ []
functions_more [] f = refl
functions_more (of_struct x ∷ is) f = functions_more is f
functions_more (of_function g ∷ is) f = ap (λ z. g ∷ z) (functions_more is f)

functions_same : (is : List Item) (s : CStruct) → functions_of (is ++ of_struct s ∷ []) ≡ functions_of is
functions_same [] s = refl
functions_same (of_struct x ∷ is) s = functions_same is s
functions_same (of_function g ∷ is) s = ap (λ z. g ∷ z) (functions_same is s)

item_behind : (is : List Item) (i : Item) (ts mid rest : List Lexeme) → ReadsItems is ts mid → ReadsItem i mid rest → ReadsItems (is ++ i ∷ []) ts rest
item_behind [] i ts mid rest r h = (rest, front (ReadsItem i) ts mid rest r h, refl)
item_behind (j ∷ is) i ts mid rest r h = (r.0, r.1, item_behind is i r.0 mid rest r.2 h)

-- what is read where a file may end
abbrev pub ProgramRead : Program → Reading
ProgramRead p all rest = (is : List Item) × (p.structs ≡ structs_of is) × (p.functions ≡ functions_of is) × (ReadsLine first_line then ReadsLine second_line then ReadsItems is) all rest

struct_behind : (p : Program) (s : CStruct) (ts mid rest : List Lexeme) → ProgramRead p ts mid → ReadsStruct s mid rest → ProgramRead (with_struct p s) ts rest
struct_behind p s ts mid rest r h =
    let q = r.3 in let a = q.2 in (
      r.0 ++ of_struct s ∷ [],
      ap (λ z. z ++ s ∷ []) r.1 ∙ sym (structs_more r.0 s),
      r.2 ∙ sym (functions_same r.0 s),
      (q.0, q.1, (a.0, a.1, item_behind r.0 (of_struct s) a.0 mid rest a.2 h)),
    )

function_behind : (p : Program) (f : Function) (ts mid rest : List Lexeme) → ProgramRead p ts mid → ReadsFunction f mid rest → ProgramRead (with_function p f) ts rest
function_behind p f ts mid rest r h =
    let q = r.3 in let a = q.2 in (
      r.0 ++ of_function f ∷ [],
      r.1 ∙ sym (structs_same r.0 f),
      ap (λ z. z ++ f ∷ []) r.2 ∙ sym (functions_more r.0 f),
      (q.0, q.1, (a.0, a.1, item_behind r.0 (of_function f) a.0 mid rest a.2 h)),
    )

-- ---- states

-- what a state has read of a file, up to the rest
abbrev pub StateRead : State → Reading
StateRead Start all rest = all ≡ rest
StateRead First all rest = token (line first_line) all rest
StateRead Second all rest = (ReadsLine first_line then token (line second_line)) all rest
StateRead (Between p) all rest = ProgramRead p all rest
StateRead (InHead p m) all rest = (ProgramRead p then HeadRead m) all rest
StateRead (InMembers p x r) all rest = (ProgramRead p then ReadsStructName x then mark (codes "{") then RowRead r) all rest
StateRead (MembersClosed p s) all rest = (s.members ≢ []) × (ProgramRead p then ReadsStructName s.name then braced (ReadsLocals s.members)) all rest
StateRead (InBody p m) all rest = (ProgramRead p then BodyRead m) all rest
StateRead Failed all rest = ⊤

-- a function that is read, where there is one
abbrev FunctionIs : Option Function → Reading
FunctionIs None all rest = ⊤
FunctionIs (Some f) all rest = ReadsFunction f all rest

body_is : (m : Body) (all rest : List Lexeme) → BodyRead m all rest → FunctionIs (body_end m) all rest
body_is (Closed f) all rest r = r
body_is _ all rest r = tt

module _ (t : Lexeme) (rest all : List Lexeme) where
  start_holds : (y : Symbol) → Means t.token y → all ≡ t ∷ rest → StateRead (on_start y) all rest
  start_holds first_include h r = front (token (line first_line)) all (t ∷ rest) rest r (seen _ t rest h)
  start_holds _ h r = tt

  first_holds : (y : Symbol) → Means t.token y → t.later ≡ true → StateRead First all (t ∷ rest) → StateRead (on_first y) all rest
  first_holds second_include h e r = (_, (e, r), seen _ t rest h)
  first_holds _ h e r = tt

  item_holds : (p : Program) (y : Symbol) → Means t.token y → ProgramRead p all (t ∷ rest) → StateRead (on_item p y) all rest
  item_holds p y h r = (t ∷ rest, r, declaration_holds t rest (t ∷ rest) Wanted y h refl)

  second_holds : (y : Symbol) → Means t.token y → t.later ≡ true → StateRead Second all (t ∷ rest) → StateRead (on_item nothing y) all rest
  second_holds y h e r = item_holds nothing y h ([], refl, refl, (r.0, r.1, (_, (e, r.2), refl)))

  defined_holds : Means t.token begin → (p : Program) (o : Option Signature) → (ProgramRead p then HeadIs o) all (t ∷ rest) → StateRead (defined p o) all rest
  defined_holds h p None r = tt
  defined_holds h p (Some s) r = (r.0, r.1, (_, r.2, (rest, seen _ t rest h, (rest, refl, refl))))

  members_holds : Means t.token begin → (p : Program) (o : Option (List ℕ)) → (ProgramRead p then StructIs o) all (t ∷ rest) → StateRead (members p o) all rest
  members_holds h p None r = tt
  members_holds h p (Some x) r = (r.0, r.1, (_, r.2, (rest, seen _ t rest h, (rest, refl, refl))))

  declared_holds : Means t.token semicolon → (p : Program) (o : Option Signature) → (ProgramRead p then HeadIs o) all (t ∷ rest) → StateRead (declared p o) all rest
  declared_holds h p None r = tt
  declared_holds h p (Some s) r =
      let a = r.2 in let b = a.1 in let c = a.2 in let d = c.2 in
      function_behind p (record { ty = s.ty; name = s.name; params = s.params; body = None }) all r.0 rest r.1 (b.0, b.1, (a.0, b.2, (c.0, c.1, (d.0, d.1, (_, d.2, seen _ t rest h)))))

  head_step_holds : (p : Program) (m : Head) (y : Symbol) → Means t.token y → StateRead (InHead p m) all (t ∷ rest) → StateRead (on_head p m y) all rest
  head_step_holds p m begin h r =
      either_way (λ z. StateRead z all rest) (head_is_whole m) (defined p (head_end m)) (members p (head_struct m))
      (λ e. defined_holds h p (head_end m) (r.0, r.1, head_is m r.0 (t ∷ rest) r.2))
      (λ e. members_holds h p (head_struct m) (r.0, r.1, head_struct_is m r.0 (t ∷ rest) r.2))
  head_step_holds p m semicolon h r = declared_holds h p (head_end m) (r.0, r.1, head_is m r.0 (t ∷ rest) r.2)
  head_step_holds p m y h r = (r.0, r.1, head_holds t rest r.0 m y h r.2)

  structured_holds : Means t.token end → (p : Program) (x : List ℕ) (ds : List CDecl) → (ProgramRead p then ReadsStructName x then mark (codes "{") then ReadsLocals ds) all (t ∷ rest) → StateRead (structured p x ds) all rest
  structured_holds h p x [] r = tt
  structured_holds h p x (d ∷ ds) r = let a = r.2 in let b = a.2 in (λ e. cc, (r.0, r.1, (a.0, a.1, (b.0, b.1, (_, b.2, seen _ t rest h)))))

  members_end_holds : Means t.token end → (p : Program) (x : List ℕ) (r : Row) → StateRead (InMembers p x r) all (t ∷ rest) → StateRead (on_members p x r end) all rest
  members_end_holds h p x r q =
      either_way (λ z. StateRead z all rest) (row_is_whole r) (structured p x r.before) Failed
      (λ e. let a = q.2 in let b = a.2 in let d = b.2 in
      let P : List Lexeme → Type 0 = λ z. ReadsLocals r.before b.0 z in
      structured_holds h p x r.before (q.0, q.1, (a.0, a.1, (b.0, b.1, subst P (whole_read r.at d.0 (t ∷ rest) e d.2) d.1))))
      (λ e. tt)

  members_step_holds : (p : Program) (x : List ℕ) (r : Row) (y : Symbol) → Means t.token y → StateRead (InMembers p x r) all (t ∷ rest) → StateRead (on_members p x r y) all rest
  members_step_holds p x r end h q = members_end_holds h p x r q
  members_step_holds p x r y h q = let a = q.2 in let b = a.2 in (q.0, q.1, (a.0, a.1, (b.0, b.1, row_holds t rest b.0 r y h b.2)))

  struct_holds : (p : Program) (s : CStruct) (y : Symbol) → Means t.token y → StateRead (MembersClosed p s) all (t ∷ rest) → StateRead (on_struct p s y) all rest
  struct_holds p s semicolon h r =
      let q = r.1 in let a = q.2 in
      struct_behind p s all q.0 rest q.1 (r.0, (a.0, a.1, (_, a.2, seen _ t rest h)))
  struct_holds p s _ h r = tt

  in_body_holds : (p : Program) (m : Body) → StateRead (InBody p m) all rest → StateRead (in_body p m) all rest
  in_body_holds p m r =
      either_way (λ z. StateRead z all rest) (body_is_closed m) (closed p (body_end m)) (InBody p m)
      (λ e. closed_holds (body_end m) (body_is m r.0 rest r.2))
      (λ e. r)
    where
      closed_holds : (o : Option Function) → FunctionIs o r.0 rest → StateRead (closed p o) all rest
      closed_holds None f = tt
      closed_holds (Some g) f = function_behind p g all r.0 rest r.1 f

  at_holds : (s : State) (y : Symbol) → Means t.token y → StateRead s all (t ∷ rest) → StateRead (at s y t.later) all rest
  at_holds Start y h r = start_holds y h r
  at_holds First y h r = either_way (λ s. StateRead s all rest) t.later (on_first y) Failed (λ e. first_holds y h e r) (λ e. tt)
  at_holds Second y h r = either_way (λ s. StateRead s all rest) t.later (on_item nothing y) Failed (λ e. second_holds y h e r) (λ e. tt)
  at_holds (Between p) y h r = item_holds p y h r
  at_holds (InHead p m) y h r = head_step_holds p m y h r
  at_holds (InMembers p x m) y h r = members_step_holds p x m y h r
  at_holds (MembersClosed p s) y h r = struct_holds p s y h r
  at_holds (InBody p m) y h r = in_body_holds p (body_step m y) (r.0, r.1, body_holds t rest r.0 m y h r.2)
  at_holds Failed y h r = tt

run_holds : (s : State) (all ts : List Lexeme) → StateRead s all ts → StateRead (run s ts) all []
run_holds s all [] r = r
run_holds s all (t ∷ ts) r = run_holds (step s t) all ts (at_holds t ts all s (symbol_of t.token) (means t.token) r)

-- what is spelled where a file ends
abbrev Spelled : List Lexeme → Option Program → Type 0
Spelled ts None = ⊤
Spelled ts (Some p) = SpellsTokens ts p

finished : (s : State) (ts : List Lexeme) → StateRead s ts [] → Spelled ts (finish s)
finished Second ts r = ([], refl, refl, (r.0, r.1, ([], (tt, r.2), refl)))
finished (Between p) ts r = r
finished _ ts r = tt

-- what is read to its end is spelled
pub sound : (ts : List Lexeme) (p : Program) → finish (run Start ts) ≡ Some p → SpellsTokens ts p
sound ts p e = let P : Option Program → Type 0 = λ o. Spelled ts o in subst P e (finished (run Start ts) ts (run_holds Start ts ts refl))
