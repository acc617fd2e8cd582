-- The C of small cores, computed.
use Rattle.std.proofs.Common.{◌≡◌, ℕ, codes, List, [], ◌∷◌, Some, None, true, false, refl}
use Rattle.cg_base.specs.declared.fun.Lib.TheVariants.{Fold}
use Rattle.cg_base.specs.declared.kind.Sigil.TheVariants.{U, W}
use Rattle.cg_base.specs.declared.kind.Word.TheVariants.{U8, U32}
use Rattle.cg_base.specs.declared.place.Place.{Place}
use Rattle.cg_base.specs.Same.{same_type}
use Rattle.cg_base.specs.Types.{Tau, unit, word, arrow, fields, variant, part, end}
use Rattle.cg_core.specs.declared.at.At.{At}
use Rattle.cg_core.specs.declared.op.Op.TheVariants as ops
use Rattle.cg_core.specs.Terms.{Note, Tree, term, var, lit, op, app, con, case_of, esac, struct, take_field, put, more, none, end as no_fields, field as named}
use Rattle.cg_ctree.specs.declared.tree.COp.TheVariants as cop
use Rattle.cg_ctree.specs.declared.tree.COpnd.TheVariants.{Number, Path}
use Rattle.cg_ctree.specs.declared.tree.CRhs.TheVariants.{Opnd, Binary, Call}
use Rattle.cg_ctree.specs.declared.tree.CTy.TheVariants as ty
use Rattle.cg_ctree.specs.Trees.{assign, branch, stop, to_block, while}
use Rattle.cg_kinds.specs.Kinds.{bang}
use Rattle.cg_eval_operations.specs.Positions.{position, position_among}
use Rattle.cg_update.specs.Machines.{type_of_part}
use Rattle.cg_cgen_def.specs.Names.{struct_name, dispatch_name}
use Rattle.cg_lower_def.specs.Dispatch.{tags_from}
use Rattle.cg_lower_def.specs.IteratorCode.{low_iterator}
use Rattle.cg_cgen_def.specs.Places.{whole_argument, argument, arrow_path, field, held, local, path, payload, tag}
use Rattle.cg_lower_def.specs.Lowered.{Whole, arrow_number, low, low_fields}

abbrev place : Place
place = record { line = 1; column = 1 }

abbrev noted : Tau → Note
noted t = record { place = place; ty = t }

abbrev at : List ℕ → At
at x = record { place = place; name = x }

-- every struct is number 7, and functions from a word to a word are called
abbrev whole : Whole
whole = record { numbered = λ t. 7; arrows = arrow (word U32) (word U32) ∷ []; list = [] }

abbrev long : Tau
long = word U32

-- ---- a record in a cell: `let c' {val = v} = c in c' {val = v + 1}`

abbrev cell : Tau
cell = fields (part (codes "val") long false (part (codes "tag") (word U8) false end)) W

abbrev bump : Tree Note
bump = term (noted cell) (take_field (term (noted cell) (var 0)) (at (codes "val")) place place
    (term (noted cell) (put (term (noted cell) (var 1)) (at (codes "val"))
    (term (noted long) (op ops.Add (more (term (noted long) (var 2)) (more (term (noted long) (lit (Some 1))) none)))))))

-- x0 = a0->m0; x1 = (uint32_t)((uint32_t)x0 + (uint32_t)1ull); a0->m0 = x1; and the value is a0
bumped : low whole 0 (whole_argument ∷ []) bump ≡ record {
  value = held argument [];
  locals = ty.Word U32 ∷ ty.Word U32 ∷ [];
  code =
      assign (path (local 0) []) (Opnd (Path (arrow_path argument (field 0 ∷ []))))
      ∷ assign (path (local 1) []) (Binary U32 U32 cop.Add (Path (path (local 0) [])) (Number 1))
      ∷ assign (arrow_path argument (field 0 ∷ [])) (Opnd (Path (path (local 1) []))) ∷ [];
}
unfolding low position position_among type_of_part
bumped = refl

-- ---- a match: `o | None -> 0 | Some v -> v`

abbrev option : Tau
option = variant (part (codes "None") unit false (part (codes "Some") long false end))

abbrev some : Tau
some = variant (part (codes "None") unit true (part (codes "Some") long false end))

abbrev or_zero : Tree Note
or_zero = term (noted long) (case_of (term (noted option) (var 0)) (at (codes "None")) place (term (noted long) (lit (Some 0)))
    (term (noted long) (esac (at (codes "Some")) (term (noted some) (var 1)))))

-- x0 = (uint8_t)((uint32_t)a0.t == (uint32_t)0ull); if (x0) { x1 = 0ull; } else { x1 = a0.a1; } and the value is x1
chosen_or_zero : low whole 0 (whole_argument ∷ []) or_zero ≡ record {
  value = held (local 1) [];
  locals = ty.Word U8 ∷ ty.Word U32 ∷ [];
  code =
      assign (path (local 0) []) (Binary U8 U32 cop.Eq (Path (path argument (tag ∷ []))) (Number 0))
      ∷ branch (Path (path (local 0) [])) (to_block (assign (path (local 1) []) (Opnd (Number 0)) ∷ []))
      (to_block (assign (path (local 1) []) (Opnd (Path (path argument (payload 1 ∷ [])))) ∷ []))
      ∷ [];
}
unfolding low position_among type_of_part
chosen_or_zero = refl

-- ---- what is made: `Some x`, and a record of which a field is put again

abbrev some_of : Tree Note
some_of = term (noted option) (con (codes "Some") (term (noted long) (var 0)))

-- x0.t = 1ull; x0.a1 = a0; and the value is x0
made_some : low whole 0 (whole_argument ∷ []) some_of ≡ record {
  value = held (local 0) [];
  locals = ty.Struct (struct_name 7) ∷ [];
  code = assign (path (local 0) (tag ∷ [])) (Opnd (Number 1)) ∷ assign (path (local 0) (payload 1 ∷ [])) (Opnd (Path (path argument []))) ∷ [];
}
unfolding low position_among
made_some = refl

abbrev two : Tau
two = fields (part (codes "p1") long false (part (codes "p2") long false end)) U

abbrev twice : Tree Note
twice = term (noted two) (put (term (noted two) (struct (named (codes "p1") (term (noted long) (var 0)) (named (codes "p2") (term (noted long) (var 0)) no_fields)))) (at (codes "p2"))
    (term (noted long) (lit (Some 5))))

-- x0.m0 = a0; x0.m1 = a0; x0.m1 = 5ull; with no copy, since nothing else is kept in x0
put_in_place : low whole 0 (whole_argument ∷ []) twice ≡ record {
  value = held (local 0) [];
  locals = ty.Struct (struct_name 7) ∷ [];
  code =
      assign (path (local 0) (field 0 ∷ [])) (Opnd (Path (path argument []))) ∷ assign (path (local 0) (field 1 ∷ [])) (Opnd (Path (path argument [])))
      ∷ assign (path (local 0) (field 1 ∷ [])) (Opnd (Number 5)) ∷ [];
}
unfolding low low_fields position position_among
put_in_place = refl

-- of a record that others may still use a copy is made first: x0 = a0; x0.m1 = 5ull;
put_in_copy : low whole 0 (whole_argument ∷ []) (term (noted two) (put (term (noted two) (var 0)) (at (codes "p2")) (term (noted long) (lit (Some 5))))) ≡ record {
  value = held (local 0) [];
  locals = ty.Struct (struct_name 7) ∷ [];
  code = assign (path (local 0) []) (Opnd (Path (path argument []))) ∷ assign (path (local 0) (field 1 ∷ [])) (Opnd (Number 5)) ∷ [];
}
unfolding low position position_among
put_in_copy = refl

-- ---- a call of a function value: `f 5`

abbrev applied : Tree Note
applied = term (noted long) (app (term (noted (arrow long long)) (var 0)) (term (noted long) (lit (Some 5))))

-- x0 = d0(a0, 5ull); and the value is x0
called_value : low whole 0 (whole_argument ∷ []) applied ≡ record {
  value = held (local 0) [];
  locals = ty.Word U32 ∷ [];
  code = assign (path (local 0) []) (Call (dispatch_name 0) (Path (path argument []) ∷ Number 5 ∷ [])) ∷ [];
}
unfolding low arrow_number same_type
called_value = refl

-- the function of a type has a case for each instance of just this type
one_case : tags_from 0 (arrow long long) (record { ty = arrow long (word U8); body = None } ∷ record { ty = arrow long long; body = None } ∷ []) ≡ 1 ∷ []
unfolding same_type
one_case = refl

-- ---- a fold over an array of bytes, which hands on a U32

-- what its function takes
abbrev turn : Tau
turn = fields (part (codes "elem") (word U8) false (part (codes "acc") long false (part (codes "obsv") unit false end))) U

abbrev over_turns : Whole
over_turns = record { numbered = λ t. 7; arrows = arrow turn long ∷ []; list = [] }

-- x0 = a0.m1; x1 = cg_w8_length(a0.m0); x2 = a0.m2 < x1; if (x2) { x1 = a0.m2; } x2 = x0 < x1; x3.m1 = a0.m4; x3.m2 = a0.m5;
-- while (x2) { x3.m0 = cg_w8_get(a0.m0, x0); x3.m1 = d0(a0.m3, x3); x0 = x0 + 1; x2 = x0 < x1; } and the value is x3.m1, where casts are
-- left out
folded : low_iterator over_turns Fold (word U8 ∷ long ∷ unit ∷ []) ≡ record {
  value = held (local 3) (field 1 ∷ []);
  locals = ty.Word U32 ∷ ty.Word U32 ∷ ty.Word U8 ∷ ty.Struct (struct_name 7) ∷ [];
  code =
      assign (path (local 0) []) (Opnd (Path (path argument (field 1 ∷ []))))
      ∷ assign (path (local 1) []) (Call (codes "cg_w8_length") (Path (path argument (field 0 ∷ [])) ∷ []))
      ∷ assign (path (local 2) []) (Binary U8 U32 cop.Lt (Path (path argument (field 2 ∷ []))) (Path (path (local 1) [])))
      ∷ branch (Path (path (local 2) [])) (to_block (assign (path (local 1) []) (Opnd (Path (path argument (field 2 ∷ [])))) ∷ [])) stop
      ∷ assign (path (local 2) []) (Binary U8 U32 cop.Lt (Path (path (local 0) [])) (Path (path (local 1) [])))
      ∷ assign (path (local 3) (field 1 ∷ [])) (Opnd (Path (path argument (field 4 ∷ []))))
      ∷ assign (path (local 3) (field 2 ∷ [])) (Opnd (Path (path argument (field 5 ∷ []))))
      ∷ while (Path (path (local 2) [])) (to_block (assign (path (local 3) (field 0 ∷ [])) (Call (codes "cg_w8_get") (Path (path argument (field 0 ∷ [])) ∷ Path (path (local 0) []) ∷ []))
      ∷ assign (path (local 3) (field 1 ∷ [])) (Call (dispatch_name 0) (Path (path argument (field 3 ∷ [])) ∷ Path (path (local 3) []) ∷ []))
      ∷ assign (path (local 0) []) (Binary U32 U32 cop.Add (Path (path (local 0) [])) (Number 1))
      ∷ assign (path (local 2) []) (Binary U8 U32 cop.Lt (Path (path (local 0) [])) (Path (path (local 1) []))) ∷ []))
      ∷ [];
}
unfolding type_of_part arrow_number same_type bang
folded = refl
