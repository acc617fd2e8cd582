-- The machine reads each program that the tokens spell.
use Rattle.std.proofs.Common.{◌≡◌, ℕ, List, [], ◌∷◌, ◌++◌, refl, sym, ap, ◌∙◌, subst, append_assoc, true, false, cond, Option, Some, None}
use Rattle.std.specs.Prelude.{codes}
use Rattle.std.proofs.lemmas.List.{append-nil}
use Rattle.cg_ctree.specs.declared.tree.CDecl.{CDecl}
use Rattle.cg_ctree.specs.declared.tree.CStruct.{CStruct}
use Rattle.cg_ctree.specs.declared.tree.CTy.TheVariants as ty
use Rattle.cg_ctree.specs.Spells.{mark, token, most_open, ReadsBlock, ReadsBody, ReadsFunction, ReadsStruct, Item, of_struct, of_function, ReadsItems, structs_of, functions_of, IsOnLaterLine, SpellsTokens}
use Rattle.cg_ctree.specs.Tokens.{line, second_line, Lexeme}
use Rattle.cg_ctree.specs.Trees.{Block, Body, Function, Program}
use Rattle.cg_cread_parts.specs.Declarations.{declaration_step, row, row_step}
use Rattle.cg_cread_parts.specs.Heads.{head_step}
use Rattle.cg_cread_parts.specs.Symbols.{Symbol, named, keyed, begin, end, semicolon, first_include, is_type, symbol_of, token_of}
use Rattle.cg_cread_parts.specs.declared.declaration.Declaration.TheVariants.{Wanted, StructRead, Typed}
use Rattle.cg_cread_parts.specs.declared.declaration.Row.{Row}
use Rattle.cg_cread_parts.specs.declared.head.Signature.{Signature}
use Rattle.cg_cread_parts.specs.declared.head.Head.{Head}
use Rattle.cg_cread_parts.specs.declared.head.Head.TheVariants as head
use Rattle.cg_cread_parts.specs.declared.symbol.Keyword.TheVariants as key
use Rattle.cg_cread_parts.proofs.Carried.{Moves, MovesAt}
use Rattle.cg_cread_parts.proofs.DeclarationComplete.{in_a_row, in_head, row_read, head_read}
use Rattle.cg_cread_parts.proofs.Known.{Fits}
use Rattle.cg_cread.specs.Bodies.{Locals, Statements, nest, with_body}
use Rattle.cg_cread.specs.Machine.{State, Start, First, Second, Between, InHead, InMembers, MembersClosed, InBody, Failed, nothing, with_struct, with_function, on_item, finish}
use Rattle.cg_cread.proofs.Steps.{run, Gives, move, nest_at, locals_on, members_on, head_on, first_on}
use Rattle.cg_cread.proofs.StatementsComplete.{statements, block_back, block_read, block_starts}

module _ (q : Program) where
  -- ---- rows and heads

  locals_move : (p : Program) (s : Signature) → MovesAt Row row_step in_a_row (λ r ts. Gives q (InBody p (Locals s r)) ts)
  locals_move p s y f r i ts rest t h =
      let Q : State → Type 0 = λ z. Gives q z rest in
      move q y f (InBody p (Locals s r)) ts rest t (λ later. subst Q (sym (locals_on p s r y later i)) h)

  members_move : (p : Program) (x : List ℕ) → MovesAt Row row_step in_a_row (λ r ts. Gives q (InMembers p x r) ts)
  members_move p x y f r i ts rest t h =
      let Q : State → Type 0 = λ z. Gives q z rest in
      move q y f (InMembers p x r) ts rest t (λ later. subst Q (sym (members_on p x r y later i)) h)

  head_move : (p : Program) → Moves Head head_step in_head (λ m ts. Gives q (InHead p m) ts)
  head_move p y f i m ts rest t h =
      let Q : State → Type 0 = λ z. Gives q z rest in
      move q y f (InHead p m) ts rest t (λ later. subst Q (sym (head_on p m y later i)) h)

  -- ---- bodies

  -- behind the locals, the machine goes on as before a statement
  behind_locals : (p : Program) (s : Signature) (ls : List CDecl) (ts us : List Lexeme) (t : Lexeme) → ts ≡ t ∷ us → is_type (symbol_of t.token) ≡ false → Gives q (InBody p (Statements (nest s ls))) ts → Gives q (InBody p (Locals s (row ls Wanted))) ts
  behind_locals p s ls ts us t e i h =
      let Q : List Lexeme → Type 0 = λ z. Gives q (InBody p (Statements (nest s ls))) z in
      let S : List Lexeme → Type 0 = λ z. Gives q (InBody p (Locals s (row ls Wanted))) z in
      subst S (sym e) (ap (λ z. finish (run z us)) (first_on p s ls (symbol_of t.token) t.later i) ∙ subst Q e h)

  block_done : (p : Program) (s : Signature) (ls : List CDecl) (b : Block) (ts mid rest : List Lexeme) → ReadsBlock most_open b ts mid → mark (codes "}") mid rest → Gives q (Between (with_function p (with_body s (Some (record { locals = ls; block = b }))))) rest → Gives q (InBody p (Locals s (row ls Wanted))) ts
  block_done p s ls b ts mid rest h e k =
      let n = block_starts b most_open ts mid rest h e in
      let Q : Block → Type 0 = λ z. Gives q (Between (with_function p (with_body s (Some (record { locals = ls; block = z }))))) rest in
      behind_locals p s ls ts n.1 n.0 n.2 n.3
      (block_read q p s ls b [] most_open [] ts mid h
      (move q end tt (InBody p (Statements (nest_at s ls [] most_open (statements b)))) mid rest e (λ later. subst Q (sym (block_back b)) k)))

  body_read : (p : Program) (s : Signature) (b : Option Body) (ts rest : List Lexeme) → ReadsBody b ts rest → Gives q (Between (with_function p (with_body s b))) rest → Gives q (InHead p (head.Closed s)) ts
  body_read p s None ts rest r k = move q semicolon tt (InHead p (head.Closed s)) ts rest r (λ later. k)
  body_read p s (Some b) ts rest r k =
      let a = r.2 in let c = a.1 in
      move q begin tt (InHead p (head.Closed s)) ts r.0 r.1 (λ later.
      row_read (λ z us. Gives q (InBody p (Locals s z)) us) (locals_move p s) b.locals [] r.0 c.0 c.1 (block_done p s b.locals b.block c.0 a.0 rest c.2 a.2 k))

  -- ---- items

  item_enter : (p : Program) (y : Symbol) → Fits y → (ts mid : List Lexeme) → token (token_of y) ts mid → Gives q (InHead p (head.InName (declaration_step Wanted y))) mid → Gives q (Between p) ts
  item_enter p y f ts mid t h = move q y f (Between p) ts mid t (λ later. h)

  function_read : (p : Program) (f : Function) (ts rest : List Lexeme) → ReadsFunction f ts rest → Gives q (Between (with_function p f)) rest → Gives q (Between p) ts
  function_read p f ts rest r k =
      let a = r.2 in let b = a.2 in let c = b.2 in let e = c.2 in
      head_read (λ m us. Gives q (InHead p m) us) (head_move p) (λ us. Gives q (Between p) us) (λ y g i us mid t h. item_enter p y g us mid t h) f.ty f.name f.params ts e.0 (r.0, r.1, (a.0, a.1, (b.0, b.1, (c.0, c.1, e.1))))
      (body_read p (record { ty = f.ty; name = f.name; params = f.params }) f.body e.0 rest e.2 k)

  members_read : (p : Program) (x : List ℕ) (ds : List CDecl) → (ds ≡ [] → ⊥) → (ts mid rest : List Lexeme) → mark (codes "}") ts mid → mark (codes ";") mid rest → Gives q (Between (with_struct p (record { name = x; members = ds }))) rest → Gives q (InMembers p x (row ds Wanted)) ts
  members_read p x [] n ts mid rest a b k = absurd (n refl)
  members_read p x (d ∷ ds) n ts mid rest a b k =
      move q end tt (InMembers p x (row (d ∷ ds) Wanted)) ts mid a (λ later.
      move q semicolon tt (MembersClosed p (record { name = x; members = d ∷ ds })) mid rest b (λ later. k))

  struct_read : (p : Program) (s : CStruct) (ts rest : List Lexeme) → ReadsStruct s ts rest → Gives q (Between (with_struct p s)) rest → Gives q (Between p) ts
  struct_read p s ts rest r k =
      let h = r.1 in let n = h.1 in let a = h.2 in let b = a.1 in
      item_enter p (keyed key.Struct) tt ts n.0 n.1
      (move q (named s.name) tt (InHead p (head.InName StructRead)) n.0 h.0 n.2 (λ later.
      move q begin tt (InHead p (head.InName (Typed (ty.Struct s.name)))) h.0 b.0 b.1 (λ later.
      row_read (λ z us. Gives q (InMembers p s.name z) us) (members_move p s.name) s.members [] b.0 b.2.0 b.2.1 (members_read p s.name s.members r.0 b.2.0 a.0 rest b.2.2 a.2 k))))

  items_read : (is : List Item) (p : Program) (ts : List Lexeme) → ReadsItems is ts [] → record { structs = p.structs ++ structs_of is; functions = p.functions ++ functions_of is } ≡ q → Gives q (Between p) ts
  items_read [] p ts r e =
      let S : List Lexeme → Type 0 = λ us. Gives q (Between p) us in
      let same : p ≡ q = ap (λ z. record { structs = z; functions = p.functions }) (sym (append-nil p.structs)) ∙ ap (λ z. record { structs = p.structs ++ []; functions = z }) (sym (append-nil p.functions)) ∙ e in
      subst S (sym r) (ap Some same)
  items_read (of_struct s ∷ is) p ts r e =
      struct_read p s ts r.0 r.1
      (items_read is (with_struct p s) r.0 r.2 (ap (λ z. record { structs = z; functions = p.functions ++ functions_of is }) (append_assoc p.structs (s ∷ []) (structs_of is)) ∙ e))
  items_read (of_function f ∷ is) p ts r e =
      function_read p f ts r.0 r.1
      (items_read is (with_function p f) r.0 r.2 (ap (λ z. record { structs = p.structs ++ structs_of is; functions = z }) (append_assoc p.functions (f ∷ []) (functions_of is)) ∙ e))

-- ---- include lines

second_read : (ts rest : List Lexeme) → IsOnLaterLine ts → token (line second_line) ts rest → run First ts ≡ run Second rest
second_read ts rest h r =
    let e : r.0 ≡ true = let P : List Lexeme → Type 0 = IsOnLaterLine in subst P r.1 h in
    ap (run First) r.1 ∙ ap (λ b. run (cond b Second Failed) rest) e

after_second : (ts : List Lexeme) → IsOnLaterLine ts → finish (run Second ts) ≡ finish (run (Between nothing) ts)
after_second [] h = refl
after_second (t ∷ ts) h = ap (λ b. finish (run (cond b (on_item nothing (symbol_of t.token)) Failed) ts)) h

-- each program that the tokens spell is read
pub complete : (ts : List Lexeme) (p : Program) → SpellsTokens ts p → finish (run Start ts) ≡ Some p
complete ts p r =
    let is = r.0 in let h = r.3 in let a = h.2 in
    let same : record { structs = structs_of is; functions = functions_of is } ≡ p = ap (λ z. record { structs = z; functions = functions_of is }) (sym r.1) ∙ ap (λ z. record { structs = p.structs; functions = z }) (sym r.2) in
    move p first_include tt Start ts h.0 h.1.1 (λ later.
    ap finish (second_read h.0 a.0 h.1.0 a.1.1) ∙ after_second a.0 a.1.0 ∙ items_read p is nothing a.0 a.2 same)
