-- The machine over bounded items follows that over whole ones.
use Rattle.std.proofs.Common.{◌≡◌, ℕ, max, List, [], ◌∷◌, ◌++◌, refl, sym, ◌∙◌, ap, arith, true, false, Bool, cond, Option, Some, None}
use Rattle.std.specs.Prelude.{nat_le}
use Rattle.std.proofs.lemmas.Bool.{le-leb, lt-leb, leb-true, leb-false}
use Rattle.cg_base.specs.declared.kind.Bound.{Bound}
use Rattle.cg_base.specs.declared.place.Place.{Place}
use Rattle.cg_base.specs.Reader.{Reader}
use Rattle.cg_core.specs.declared.at.At.{At}
use Rattle.cg_surface.specs.Written.{Written}
use Rattle.cg_surface.specs.Written as types_of
use Rattle.cg_surface.specs.Patterns.{Pattern}
use Rattle.cg_surface.specs.Patterns as patterns_of
use Rattle.cg_surface.specs.Exprs.{Expr}
use Rattle.cg_surface.specs.Exprs as exprs_of
use Rattle.cg_surface.specs.Programs.{Entry, synonym, abstract, signature, define, entry_depth, program_depth}
use Rattle.cg_parser_symbols.specs.Symbols.{Symbol, lower, upper, type_word, all_word, opening, closing, colon, has_kinds, equals, comma, dot, Seen, is_first}
use Rattle.cg_parser_symbols.specs.Follows.{Follows, option_map}
use Rattle.cg_parser_def.specs.Bounded.{depth_limit, within, within_program, added, both, bounded}
use Rattle.cg_parser_def.specs.Grammar.{are_letters}
use Rattle.cg_parser_def.specs.Machine.{State, Between, AfterType, InParams, InSynonym, AfterName, AfterColon, AfterAll, WantVar, AfterVar, WantKinds, AfterKinds, WantDot, InSignature, InParam, InBody, Failed}
use Rattle.cg_parser_def.specs.Machine as machine
use Rattle.cg_parser_def.specs.Plain.{entries}
use Rattle.cg_parser_types.proofs.Follow.{same_cond}

-- the depth of items and one more
depth_more : (done : List Entry) (i : Entry) → program_depth (done ++ i ∷ []) ≡ max (program_depth done) (entry_depth i)
depth_more [] i = omega arith
depth_more (j ∷ done) i = omega (arith, depth_more done i)

added_within : (done : List Entry) (i : Entry) → within_program (done ++ i ∷ []) ≡ added (within_program done) (within i)
added_within done i = go (nat_le (program_depth done) depth_limit) (nat_le (entry_depth i) depth_limit) refl refl
  where
    go : (b c : Bool) → nat_le (program_depth done) depth_limit ≡ b → nat_le (entry_depth i) depth_limit ≡ c → within_program (done ++ i ∷ []) ≡ added (cond b (Some done) None) (cond c (Some i) None)
    go true true q r = rw (le-leb (program_depth (done ++ i ∷ [])) depth_limit (omega (arith, leb-true (program_depth done) depth_limit q, leb-true (entry_depth i) depth_limit r, depth_more done i))) refl
    go true false q r = rw (lt-leb (program_depth (done ++ i ∷ [])) depth_limit (omega (arith, leb-false (entry_depth i) depth_limit r, depth_more done i))) refl
    go false c q r = rw (lt-leb (program_depth (done ++ i ∷ [])) depth_limit (omega (arith, leb-false (program_depth done) depth_limit q, depth_more done i))) refl

-- parts within the depth
abbrev pub type_within : Written → Option Written
type_within t = cond (nat_le (types_of.depth_of t) depth_limit) (Some t) None

abbrev pub pattern_within : Pattern → Option Pattern
pattern_within x = cond (nat_le (patterns_of.depth_of x) depth_limit) (Some x) None

abbrev pub expr_within : Expr → Option Expr
expr_within e = cond (nat_le (exprs_of.depth_of e) depth_limit) (Some e) None

-- an item of one type is within the depth where the type is
one_within : (f : Written → Entry) (t : Written) → entry_depth (f t) ≡ types_of.depth_of t → within (f t) ≡ option_map f (type_within t)
one_within f t e = go (nat_le (types_of.depth_of t) depth_limit) refl
  where
    go : (b : Bool) → nat_le (types_of.depth_of t) depth_limit ≡ b → within (f t) ≡ option_map f (cond b (Some t) None)
    go true q = rw (le-leb (entry_depth (f t)) depth_limit (omega (arith, leb-true (types_of.depth_of t) depth_limit q, e))) refl
    go false q = rw (lt-leb (entry_depth (f t)) depth_limit (omega (arith, leb-false (types_of.depth_of t) depth_limit q, e))) refl

define_within : (h : At) (x : Pattern) (e : Expr) → within (define h x e) ≡ both (define h) (pattern_within x) (expr_within e)
define_within h x e = go (nat_le (patterns_of.depth_of x) depth_limit) (nat_le (exprs_of.depth_of e) depth_limit) refl refl
  where
    go : (b c : Bool) → nat_le (patterns_of.depth_of x) depth_limit ≡ b → nat_le (exprs_of.depth_of e) depth_limit ≡ c → within (define h x e) ≡ both (define h) (cond b (Some x) None) (cond c (Some e) None)
    go true true q r = rw (le-leb (max (patterns_of.depth_of x) (exprs_of.depth_of e)) depth_limit (omega (arith, leb-true (patterns_of.depth_of x) depth_limit q, leb-true (exprs_of.depth_of e) depth_limit r))) refl
    go true false q r = rw (lt-leb (max (patterns_of.depth_of x) (exprs_of.depth_of e)) depth_limit (omega (arith, leb-false (exprs_of.depth_of e) depth_limit r))) refl
    go false c q r = rw (lt-leb (max (patterns_of.depth_of x) (exprs_of.depth_of e)) depth_limit (omega (arith, leb-false (patterns_of.depth_of x) depth_limit q))) refl

module _ {TS PS XS TH PH XH : Type 0} (types : Reader TS Seen Written) (patterns : Reader PS Seen Pattern) (exprs : Reader XS Seen Expr)
    (held_types : Reader TH Seen (Option Written)) (held_patterns : Reader PH Seen (Option Pattern)) (held_exprs : Reader XH Seen (Option Expr))
    (of_type : TS → TH) (of_pattern : PS → PH) (of_expr : XS → XH)
    (type_follows : Follows types held_types of_type type_within) (pattern_follows : Follows patterns held_patterns of_pattern pattern_within) (expr_follows : Follows exprs held_exprs of_expr expr_within) where
  abbrev pub Stage : Type 0
  Stage = State TS PS XS Pattern (List Entry)

  abbrev pub Held : Type 0
  Held = State TH PH XH (Option Pattern) (Option (List Entry))

  abbrev pub held : Stage → Held
  held (Between done) = Between (within_program done)
  held (AfterType done) = AfterType (within_program done)
  held (InParams done h params) = InParams (within_program done) h params
  held (InSynonym done h params s) = InSynonym (within_program done) h params (of_type s)
  held (AfterName done h) = AfterName (within_program done) h
  held (AfterColon done h) = AfterColon (within_program done) h
  held (AfterAll done h) = AfterAll (within_program done) h
  held (WantVar done h vs ps) = WantVar (within_program done) h vs ps
  held (AfterVar done h vs ps n q) = AfterVar (within_program done) h vs ps n q
  held (WantKinds done h vs ps n q) = WantKinds (within_program done) h vs ps n q
  held (AfterKinds done h vs ps v q) = AfterKinds (within_program done) h vs ps v q
  held (WantDot done h vs ps) = WantDot (within_program done) h vs ps
  held (InSignature done h vs ps s) = InSignature (within_program done) h vs ps (of_type s)
  held (InParam done h s) = InParam (within_program done) h (of_pattern s)
  held (InBody done h x s) = InBody (within_program done) h (pattern_within x) (of_expr s)
  held Failed = Failed

  -- the two machines' steps
  abbrev finish_plain : Stage → Option (List Entry)
  finish_plain = machine.finish types patterns exprs entries

  abbrev finish_held : Held → Option (Option (List Entry))
  finish_held = machine.finish held_types held_patterns held_exprs bounded

  same_end_synonym : (done : List Entry) (h : At) (params : List At) (o : Option Written)
      → machine.end_synonym held_types held_patterns held_exprs bounded (within_program done) h params (option_map type_within o) ≡ option_map within_program (machine.end_synonym types patterns exprs entries done h params o)
  same_end_synonym done h params None = refl
  same_end_synonym done h params (Some t) = ap Some (ap (added (within_program done)) (sym (one_within (synonym h params) t refl)) ∙ sym (added_within done (synonym h params t)))

  same_end_signature : (done : List Entry) (h : At) (vs : List Bound) (ps : List Place) (o : Option Written)
      → machine.end_signature held_types held_patterns held_exprs bounded (within_program done) h vs ps (option_map type_within o) ≡ option_map within_program (machine.end_signature types patterns exprs entries done h vs ps o)
  same_end_signature done h vs ps None = refl
  same_end_signature done h vs ps (Some t) = ap Some (ap (added (within_program done)) (sym (one_within (signature h vs ps) t refl)) ∙ sym (added_within done (signature h vs ps t)))

  same_end_body : (done : List Entry) (h : At) (x : Pattern) (o : Option Expr)
      → machine.end_body held_types held_patterns held_exprs bounded (within_program done) h (pattern_within x) (option_map expr_within o) ≡ option_map within_program (machine.end_body types patterns exprs entries done h x o)
  same_end_body done h x None = refl
  same_end_body done h x (Some e) = ap Some (ap (added (within_program done)) (sym (define_within h x e)) ∙ sym (added_within done (define h x e)))

  same_finish : (s : Stage) → finish_held (held s) ≡ option_map within_program (finish_plain s)
  same_finish (Between done) = refl
  same_finish (AfterType done) = refl
  same_finish (InParams done h params) = ap Some (sym (added_within done (abstract h params)))
  same_finish (InSynonym done h params s) = ap (machine.end_synonym held_types held_patterns held_exprs bounded (within_program done) h params) (type_follows.finishes s) ∙ same_end_synonym done h params (types.finish s)
  same_finish (AfterName done h) = refl
  same_finish (AfterColon done h) = refl
  same_finish (AfterAll done h) = refl
  same_finish (WantVar done h vs ps) = refl
  same_finish (AfterVar done h vs ps n q) = refl
  same_finish (WantKinds done h vs ps n q) = refl
  same_finish (AfterKinds done h vs ps v q) = refl
  same_finish (WantDot done h vs ps) = refl
  same_finish (InSignature done h vs ps s) = ap (machine.end_signature held_types held_patterns held_exprs bounded (within_program done) h vs ps) (type_follows.finishes s) ∙ same_end_signature done h vs ps (types.finish s)
  same_finish (InParam done h s) = refl
  same_finish (InBody done h x s) = ap (machine.end_body held_types held_patterns held_exprs bounded (within_program done) h (pattern_within x)) (expr_follows.finishes s) ∙ same_end_body done h x (exprs.finish s)
  same_finish Failed = refl

  same_head : (o : Option (List Entry)) (y : Symbol) (p : Place) → machine.on_head held_types held_patterns held_exprs bounded (option_map within_program o) y p ≡ held (machine.on_head types patterns exprs entries o y p)
  same_head None y p = refl
  same_head (Some done) (lower n) p = refl
  same_head (Some done) type_word p = refl
  same_head (Some done) _ p = refl

  same_after_type : (done : List Entry) (y : Symbol) (p : Place) → machine.after_type held_types held_patterns held_exprs bounded (within_program done) y p ≡ held (machine.after_type types patterns exprs entries done y p)
  same_after_type done (upper n) p = refl
  same_after_type done _ p = refl

  same_in_params : (done : List Entry) (h : At) (params : List At) (y : Symbol) (p : Place) → machine.in_params held_types held_patterns held_exprs bounded (within_program done) h params y p ≡ held (machine.in_params types patterns exprs entries done h params y p)
  same_in_params done h params (lower n) p = refl
  same_in_params done h params equals p = ap (InSynonym (within_program done) h params) type_follows.begins
  same_in_params done h params _ p = refl

  -- the first token of a part
  type_begun : (t : Seen) → held_types.step held_types.begin t ≡ of_type (types.step types.begin t)
  type_begun t = ap (λ s. held_types.step s t) type_follows.begins ∙ type_follows.steps types.begin t

  pattern_begun : (t : Seen) → held_patterns.step held_patterns.begin t ≡ of_pattern (patterns.step patterns.begin t)
  pattern_begun t = ap (λ s. held_patterns.step s t) pattern_follows.begins ∙ pattern_follows.steps patterns.begin t

  same_after_name : (done : List Entry) (h : At) (y : Symbol) (p : Place) → machine.after_name held_types held_patterns held_exprs bounded (within_program done) h y p ≡ held (machine.after_name types patterns exprs entries done h y p)
  same_after_name done h colon p = refl
  same_after_name done h y p = ap (InParam (within_program done) h) (pattern_begun (record { symbol = y; place = p }))

  same_after_colon : (done : List Entry) (h : At) (y : Symbol) (p : Place) → machine.after_colon held_types held_patterns held_exprs bounded (within_program done) h y p ≡ held (machine.after_colon types patterns exprs entries done h y p)
  same_after_colon done h all_word p = refl
  same_after_colon done h y p = ap (InSignature (within_program done) h [] []) (type_begun (record { symbol = y; place = p }))

  same_after_all : (done : List Entry) (h : At) (y : Symbol) (p : Place) → machine.after_all held_types held_patterns held_exprs bounded (within_program done) h y p ≡ held (machine.after_all types patterns exprs entries done h y p)
  same_after_all done h (lower n) p = refl
  same_after_all done h opening p = refl
  same_after_all done h _ p = refl

  same_want_var : (done : List Entry) (h : At) (vs : List Bound) (ps : List Place) (y : Symbol) (p : Place) → machine.want_var held_types held_patterns held_exprs bounded (within_program done) h vs ps y p ≡ held (machine.want_var types patterns exprs entries done h vs ps y p)
  same_want_var done h vs ps (lower n) p = refl
  same_want_var done h vs ps _ p = refl

  same_after_kinds : (done : List Entry) (h : At) (vs : List Bound) (ps : List Place) (v : Bound) (q : Place) (y : Symbol) → machine.after_kinds held_types held_patterns held_exprs bounded (within_program done) h vs ps v q y ≡ held (machine.after_kinds types patterns exprs entries done h vs ps v q y)
  same_after_kinds done h vs ps v q comma = refl
  same_after_kinds done h vs ps v q closing = refl
  same_after_kinds done h vs ps v q _ = refl

  same_after_var : (done : List Entry) (h : At) (vs : List Bound) (ps : List Place) (n : List ℕ) (q : Place) (y : Symbol) → machine.after_var held_types held_patterns held_exprs bounded (within_program done) h vs ps n q y ≡ held (machine.after_var types patterns exprs entries done h vs ps n q y)
  same_after_var done h vs ps n q has_kinds = refl
  same_after_var done h vs ps n q comma = refl
  same_after_var done h vs ps n q closing = refl
  same_after_var done h vs ps n q _ = refl

  same_want_kinds : (done : List Entry) (h : At) (vs : List Bound) (ps : List Place) (n : List ℕ) (q : Place) (y : Symbol) → machine.want_kinds held_types held_patterns held_exprs bounded (within_program done) h vs ps n q y ≡ held (machine.want_kinds types patterns exprs entries done h vs ps n q y)
  same_want_kinds done h vs ps n q (upper letters) = same_cond held (are_letters letters) (AfterKinds done h vs ps _ q) Failed
  same_want_kinds done h vs ps n q _ = refl

  same_want_dot : (done : List Entry) (h : At) (vs : List Bound) (ps : List Place) (y : Symbol) → machine.want_dot held_types held_patterns held_exprs bounded (within_program done) h vs ps y ≡ held (machine.want_dot types patterns exprs entries done h vs ps y)
  same_want_dot done h vs ps dot = ap (InSignature (within_program done) h vs ps) type_follows.begins
  same_want_dot done h vs ps _ = refl

  same_on_equals : (done : List Entry) (h : At) (s : PS) (p : Place) (o : Option Pattern) → machine.on_equals held_types held_patterns held_exprs bounded (within_program done) h (of_pattern s) p (option_map pattern_within o) ≡ held (machine.on_equals types patterns exprs entries done h s p o)
  same_on_equals done h s p None = ap (InParam (within_program done) h) (pattern_follows.steps s (record { symbol = equals; place = p }))
  same_on_equals done h s p (Some x) = ap (InBody (within_program done) h (pattern_within x)) expr_follows.begins

  same_in_param : (done : List Entry) (h : At) (s : PS) (y : Symbol) (p : Place) → machine.in_param held_types held_patterns held_exprs bounded (within_program done) h (of_pattern s) y p ≡ held (machine.in_param types patterns exprs entries done h s y p)
  same_in_param done h s equals p = ap (machine.on_equals held_types held_patterns held_exprs bounded (within_program done) h (of_pattern s) p) (pattern_follows.finishes s) ∙ same_on_equals done h s p (patterns.finish s)
  same_in_param done h s y p = ap (InParam (within_program done) h) (pattern_follows.steps s (record { symbol = y; place = p }))

  same_inside : (s : Stage) (y : Symbol) (p : Place) → machine.inside held_types held_patterns held_exprs bounded (held s) y p ≡ held (machine.inside types patterns exprs entries s y p)
  same_inside (Between done) y p = refl
  same_inside (AfterType done) y p = same_after_type done y p
  same_inside (InParams done h params) y p = same_in_params done h params y p
  same_inside (InSynonym done h params s) y p = ap (InSynonym (within_program done) h params) (type_follows.steps s (record { symbol = y; place = p }))
  same_inside (AfterName done h) y p = same_after_name done h y p
  same_inside (AfterColon done h) y p = same_after_colon done h y p
  same_inside (AfterAll done h) y p = same_after_all done h y p
  same_inside (WantVar done h vs ps) y p = same_want_var done h vs ps y p
  same_inside (AfterVar done h vs ps n q) y p = same_after_var done h vs ps n q y
  same_inside (WantKinds done h vs ps n q) y p = same_want_kinds done h vs ps n q y
  same_inside (AfterKinds done h vs ps v q) y p = same_after_kinds done h vs ps v q y
  same_inside (WantDot done h vs ps) y p = same_want_dot done h vs ps y
  same_inside (InSignature done h vs ps s) y p = ap (InSignature (within_program done) h vs ps) (type_follows.steps s (record { symbol = y; place = p }))
  same_inside (InParam done h s) y p = same_in_param done h s y p
  same_inside (InBody done h x s) y p = ap (InBody (within_program done) h (pattern_within x)) (expr_follows.steps s (record { symbol = y; place = p }))
  same_inside Failed y p = refl

  same_step : (s : Stage) (t : Seen) → machine.step held_types held_patterns held_exprs bounded (held s) t ≡ held (machine.step types patterns exprs entries s t)
  same_step s t =
      ap (λ o. cond (is_first t.place) (machine.on_head held_types held_patterns held_exprs bounded o t.symbol t.place) (machine.inside held_types held_patterns held_exprs bounded (held s) t.symbol t.place)) (same_finish s)
      ∙ ap (λ x. cond (is_first t.place) x (machine.inside held_types held_patterns held_exprs bounded (held s) t.symbol t.place)) (same_head (finish_plain s) t.symbol t.place)
      ∙ ap (λ x. cond (is_first t.place) (held (machine.on_head types patterns exprs entries (finish_plain s) t.symbol t.place)) x) (same_inside s t.symbol t.place)
      ∙ same_cond held (is_first t.place) (machine.on_head types patterns exprs entries (finish_plain s) t.symbol t.place) (machine.inside types patterns exprs entries s t.symbol t.place)

  same_open : (s : Stage) → machine.is_open held_types held_patterns held_exprs bounded (held s) ≡ machine.is_open types patterns exprs entries s
  same_open (InSynonym done h params s) = type_follows.opens s
  same_open (InSignature done h vs ps s) = type_follows.opens s
  same_open (InParam done h s) = pattern_follows.opens s
  same_open (InBody done h x s) = expr_follows.opens s
  same_open Failed = refl
  same_open (Between done) = refl
  same_open (AfterType done) = refl
  same_open (InParams done h params) = refl
  same_open (AfterName done h) = refl
  same_open (AfterColon done h) = refl
  same_open (AfterAll done h) = refl
  same_open (WantVar done h vs ps) = refl
  same_open (AfterVar done h vs ps n q) = refl
  same_open (WantKinds done h vs ps n q) = refl
  same_open (AfterKinds done h vs ps v q) = refl
  same_open (WantDot done h vs ps) = refl

  pub follows : Follows (machine.reader types patterns exprs entries) (machine.reader held_types held_patterns held_exprs bounded) held within_program
  follows = record { begins = refl; steps = same_step; opens = same_open; finishes = same_finish }
