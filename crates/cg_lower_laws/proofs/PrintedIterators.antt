-- The C of iterators can be printed.
use Rattle.std.proofs.Common.{ℕ, suc, List, [], ◌∷◌, ◌++◌, arith, codes}
use Rattle.cg_base.specs.declared.fun.Lib.{Lib}
use Rattle.cg_base.specs.declared.fun.Lib.TheVariants.{New, Free, Create, FreeArray, Length, Get, Put, Map, Fold, Seq32, Seq64, Seq32Break}
use Rattle.cg_base.specs.declared.kind.Word.{Word}
use Rattle.cg_base.specs.declared.kind.Word.TheVariants.{U8, U32, U64}
use Rattle.cg_base.specs.Types.{Tau}
use Rattle.cg_cgen_def.specs.Code.{computed_by}
use Rattle.cg_cmachine_def.specs.BuiltIns.{array_call}
use Rattle.cg_ctree.specs.declared.tree.COp.{COp}
use Rattle.cg_ctree.specs.declared.tree.COp.TheVariants as cop
use Rattle.cg_ctree.specs.declared.tree.CRhs.TheVariants.{Call as called}
use Rattle.cg_ctree.specs.Spells.{IsPrintableBlock, IsPrintableStmt}
use Rattle.cg_ctree.specs.Trees.{Stmt, to_block, while}
use Rattle.cg_typing.specs.Library.{library_type}
use Rattle.cg_typing.specs.Parts.{given_by, taken_by}
use Rattle.cg_cgen_def.specs.Loops.{Types, array_begins, array_goes_on, array_of_argument, array_reads, break_begins, break_ends, break_goes_on, break_low, break_stops, break_turn, computing, fold_low, fold_turn, loop_begins, loop_goes_on, loop_low, loop_turn, map_low, map_turn, repeating, turning}
use Rattle.cg_cgen_def.specs.Places.{whole_local, field_of_argument, Place, Step, field, held, local, number, operand, path, payload, tag}
use Rattle.cg_lower_def.specs.IteratorCode.{function_type, low_iterator, types_in}
use Rattle.cg_cgen_def.specs.Bodies.{setting}
use Rattle.cg_lower_def.specs.Lowered.{Whole, arrow_number}
use Rattle.cg_cgen_def.specs.Names.{dispatch_name}
use Rattle.cg_lower_laws.proofs.PrintedLibrary.{done_prints, setting_prints}
use Rattle.cg_lower_laws.proofs.PrintedNames.{FitsPlace, dispatch_named, get_named, length_named, operand_prints, operands_print, path_prints, put_named, type_prints}
use Rattle.cg_lower_laws.proofs.PrintedNodes.{Print, PrintsLow, all_append, assign_prints, block_prints, inner_is, leaf_prints}

-- what is computed of two places
computed_prints : (room : ℕ) (o : COp) (outer w : Word) (j : ℕ) (left right : Place) → FitsPlace left → FitsPlace right
    → IsPrintableStmt room (computed_by o outer w (path (local j) []) (operand left) (operand right))
computed_prints room o outer w j left right hl hr =
    assign_prints room (path (local j) []) _ (path_prints (local j) []) (inner_is w, operand_prints left hl, operand_prints right hr)

-- ---- the parts of loops

module _ (room : ℕ) where
  -- over an array
  begins_prints : (w : Word) → Print (suc room) (array_begins w)
  unfolding IsPrintableStmt IsPrintableBlock
  begins_prints w = (
    setting_prints (suc room) 0 [] (field_of_argument 1) tt,
    (
      assign_prints (suc room) (path (local 1) []) (called (array_call w (codes "length")) (operand array_of_argument ∷ [])) (path_prints (local 1) []) (length_named w, operands_print (array_of_argument ∷ []) (tt, tt)),
      (
        computed_prints (suc room) cop.Lt U8 U32 2 (field_of_argument 2) (whole_local 1) tt tt,
        (
          (path_prints (local 2) [], block_prints room (setting 1 [] (field_of_argument 2) ∷ []) (setting_prints room 1 [] (field_of_argument 2) tt, tt), tt),
          (
            computed_prints (suc room) cop.Lt U8 U32 2 (whole_local 0) (whole_local 1) tt tt,
            (setting_prints (suc room) 3 (field 1 ∷ []) (field_of_argument 4) tt, (setting_prints (suc room) 3 (field 2 ∷ []) (field_of_argument 5) tt, tt)),
          ),
        ),
      ),
    ),
  )

  reads_prints : (w : Word) → IsPrintableStmt room (array_reads w)
  reads_prints w = assign_prints room (path (local 3) (field 0 ∷ [])) _ (path_prints (local 3) (field 0 ∷ [])) (get_named w, operands_print (array_of_argument ∷ whole_local 0 ∷ []) (tt, (tt, tt)))

  goes_on_prints : Print room array_goes_on
  goes_on_prints = (computed_prints room cop.Add U32 U32 0 (whole_local 0) (number 1) tt (omega arith), (computed_prints room cop.Lt U8 U32 2 (whole_local 0) (whole_local 1) tt tt, tt))

  -- over numbers
  loop_begins_prints : (w : Word) → Print room (loop_begins w)
  loop_begins_prints w = (
    setting_prints room 0 [] (field_of_argument 0) tt,
    (
      computed_prints room cop.Lt U8 w 2 (whole_local 0) (field_of_argument 1) tt tt,
      (
        computed_prints room cop.Ne U8 w 3 (field_of_argument 2) (number 0) tt (omega arith),
        (computed_prints room cop.And U8 U8 2 (whole_local 2) (whole_local 3) tt tt, (setting_prints room 4 (field 1 ∷ []) (field_of_argument 5) tt, tt)),
      ),
    ),
  )

  loop_goes_on_prints : (w : Word) → Print (suc room) (loop_goes_on w)
  unfolding IsPrintableStmt IsPrintableBlock
  loop_goes_on_prints w = (
    computed_prints (suc room) cop.Sub w w 1 (field_of_argument 1) (whole_local 0) tt tt,
    (
      computed_prints (suc room) cop.Lt U8 w 2 (field_of_argument 2) (whole_local 1) tt tt,
      (
        (
          path_prints (local 2) [],
          block_prints room (computing w 0 (whole_local 0) (field_of_argument 2) ∷ []) (computed_prints room cop.Add w w 0 (whole_local 0) (field_of_argument 2) tt tt, tt),
          tt,
        ),
        tt,
      ),
    ),
  )

  -- a loop with a body that can be printed
  while_prints : (code : List Stmt) → Print room code → IsPrintableStmt (suc room) (while (operand (whole_local 2)) (to_block code))
  unfolding IsPrintableStmt
  while_prints code h = (path_prints (local 2) [], block_prints room code h)

-- of one that a turn may end
begun_prints : (room : ℕ) → Print room break_begins
begun_prints room = (
  setting_prints room 4 (field 0 ∷ []) (field_of_argument 4) tt,
  (setting_prints room 6 (field 1 ∷ tag ∷ []) (number 1) (omega arith), (setting_prints room 6 (field 1 ∷ payload 1 ∷ []) (number 0) (omega arith), tt)),
)

ends_prints : (room : ℕ) → Print (suc room) break_ends
unfolding IsPrintableStmt IsPrintableBlock
ends_prints room = (
  (
    path_prints (local 6) (field 1 ∷ tag ∷ []),
    block_prints room (setting 6 (field 0 ∷ []) (held (local 4) (field 0 ∷ [])) ∷ []) (setting_prints room 6 (field 0 ∷ []) (held (local 4) (field 0 ∷ [])) tt, tt),
    tt,
  ),
  tt,
)

-- ---- iterators

-- Over the number of the arrow type of the function that is called in each turn.
module _ (j : ℕ) where
  turning_prints : (room to : ℕ) (steps : List Step) (item : ℕ) → IsPrintableStmt room (turning (dispatch_name j) to steps item)
  turning_prints room to steps item =
      assign_prints room (path (local to) steps) _ (path_prints (local to) steps) (dispatch_named j, operands_print (field_of_argument 3 ∷ whole_local item ∷ []) (tt, (tt, tt)))

  break_turn_prints : (room : ℕ) → Print (suc (suc room)) (break_turn (dispatch_name j))
  unfolding IsPrintableStmt
  break_turn_prints room = (
    setting_prints (suc (suc room)) 4 (field 2 ∷ []) (whole_local 0) tt,
    (
      turning_prints (suc (suc room)) 5 [] 4,
      (
        (
          path_prints (local 5) (field 1 ∷ tag ∷ []),
          block_prints (suc room) break_goes_on (setting_prints (suc room) 4 (field 0 ∷ []) (held (local 5) (field 0 ∷ [])) tt, loop_goes_on_prints room U32),
          block_prints (suc room) break_stops (setting_prints (suc room) 6 [] (whole_local 5) tt, (setting_prints (suc room) 2 [] (number 0) (omega arith), tt)),
        ),
        tt,
      ),
    ),
  )

  -- what a loop has between its braces
  fold_turn_prints : (room : ℕ) (w : Word) → Print room (fold_turn (dispatch_name j) w)
  fold_turn_prints room w = (reads_prints room w, (turning_prints room 3 (field 1 ∷ []) 3, goes_on_prints room))

  map_turn_prints : (room : ℕ) (w : Word) → Print room (map_turn (dispatch_name j) w)
  map_turn_prints room w = (
    reads_prints room w,
    (
      turning_prints room 4 [] 3,
      (
        (done_prints room (array_call w (codes "put")) (array_of_argument ∷ whole_local 0 ∷ held (local 4) (field 0 ∷ []) ∷ []) (put_named w) (tt, (tt, (tt, tt)))).0,
        (setting_prints room 3 (field 1 ∷ []) (held (local 4) (field 1 ∷ [])) tt, goes_on_prints room),
      ),
    ),
  )

  numbers_prints : (room : ℕ) (w : Word) → Print (suc room) (loop_turn (dispatch_name j) w)
  numbers_prints room w = (setting_prints (suc room) 4 (field 2 ∷ []) (whole_local 0) tt, (turning_prints (suc room) 4 (field 0 ∷ []) 4, loop_goes_on_prints room w))

  -- and the whole, at type arguments
  module _ (numbered : Tau → ℕ) (lib : Lib) (args : List Tau) where
    abbrev types : Types
    types = types_in numbered lib args

    fold_prints : (room : ℕ) → PrintsLow (suc room) (fold_low types (dispatch_name j))
    fold_prints room = record {
      value = tt;
      locals = (tt, (tt, (tt, (type_prints numbered (taken_by (function_type lib args)), tt))));
      code =
          all_append (IsPrintableStmt (suc room)) (array_begins types.word) (repeating (fold_turn (dispatch_name j) types.word) ∷ []) (begins_prints room types.word)
          (while_prints room (fold_turn (dispatch_name j) types.word) (fold_turn_prints room types.word), tt);
    }

    map_prints : (room : ℕ) → PrintsLow (suc room) (map_low types (dispatch_name j))
    map_prints room = record {
      value = tt;
      locals = (
        tt,
        (
          tt,
          (
            tt,
            (
              type_prints numbered (taken_by (function_type lib args)),
              (type_prints numbered (given_by (function_type lib args)), (type_prints numbered (given_by (library_type lib args)), tt)),
            ),
          ),
        ),
      );
      code =
          all_append (IsPrintableStmt (suc room)) (array_begins types.word)
          (repeating (map_turn (dispatch_name j) types.word) ∷ setting 5 (field 0 ∷ []) array_of_argument ∷ setting 5 (field 1 ∷ []) (held (local 3) (field 1 ∷ [])) ∷ [])
          (begins_prints room types.word) (
            while_prints room (map_turn (dispatch_name j) types.word) (map_turn_prints room types.word),
            (setting_prints (suc room) 5 (field 0 ∷ []) array_of_argument tt, (setting_prints (suc room) 5 (field 1 ∷ []) (held (local 3) (field 1 ∷ [])) tt, tt)),
          );
    }

    loop_prints : (room : ℕ) (w : Word) → PrintsLow (suc (suc room)) (loop_low w types (dispatch_name j))
    loop_prints room w = record {
      value = tt;
      locals = (tt, (tt, (tt, (tt, (type_prints numbered (taken_by (function_type lib args)), tt)))));
      code =
          all_append (IsPrintableStmt (suc (suc room))) (loop_begins w) (setting 4 (field 0 ∷ []) (field_of_argument 4) ∷ repeating (loop_turn (dispatch_name j) w) ∷ [])
          (loop_begins_prints (suc (suc room)) w)
          (setting_prints (suc (suc room)) 4 (field 0 ∷ []) (field_of_argument 4) tt, (while_prints (suc room) (loop_turn (dispatch_name j) w) (numbers_prints room w), tt));
    }

    broken_prints : (room : ℕ) → PrintsLow (suc (suc (suc room))) (break_low types (dispatch_name j))
    broken_prints room = record {
      value = tt;
      locals = (
        tt,
        (
          tt,
          (
            tt,
            (
              tt,
              (
                type_prints numbered (taken_by (function_type lib args)),
                (type_prints numbered (given_by (library_type lib args)), (type_prints numbered (given_by (library_type lib args)), tt)),
              ),
            ),
          ),
        ),
      );
      code =
          all_append (IsPrintableStmt (suc (suc (suc room)))) (loop_begins U32) (break_begins ++ repeating (break_turn (dispatch_name j)) ∷ break_ends) (loop_begins_prints (suc (suc (suc room))) U32)
          (all_append (IsPrintableStmt (suc (suc (suc room)))) break_begins (repeating (break_turn (dispatch_name j)) ∷ break_ends) (begun_prints (suc (suc (suc room))))
          (while_prints (suc (suc room)) (break_turn (dispatch_name j)) (break_turn_prints room), ends_prints (suc (suc room))));
    }

-- an iterator at type arguments
pub iterator_prints : (whole : Whole) (room : ℕ) (lib : Lib) (args : List Tau) → PrintsLow (suc (suc (suc room))) (low_iterator whole lib args)
iterator_prints whole room Map args = map_prints (arrow_number whole.arrows (function_type Map args)) whole.numbered Map args (suc (suc room))
iterator_prints whole room Fold args = fold_prints (arrow_number whole.arrows (function_type Fold args)) whole.numbered Fold args (suc (suc room))
iterator_prints whole room Seq32 args = loop_prints (arrow_number whole.arrows (function_type Seq32 args)) whole.numbered Seq32 args (suc room) U32
iterator_prints whole room Seq64 args = loop_prints (arrow_number whole.arrows (function_type Seq64 args)) whole.numbered Seq64 args (suc room) U64
iterator_prints whole room Seq32Break args = broken_prints (arrow_number whole.arrows (function_type Seq32Break args)) whole.numbered Seq32Break args room
iterator_prints whole room New args = leaf_prints (suc (suc (suc room))) _ (omega arith)
iterator_prints whole room Free args = leaf_prints (suc (suc (suc room))) _ (omega arith)
iterator_prints whole room Create args = leaf_prints (suc (suc (suc room))) _ (omega arith)
iterator_prints whole room FreeArray args = leaf_prints (suc (suc (suc room))) _ (omega arith)
iterator_prints whole room Length args = leaf_prints (suc (suc (suc room))) _ (omega arith)
iterator_prints whole room Get args = leaf_prints (suc (suc (suc room))) _ (omega arith)
iterator_prints whole room Put args = leaf_prints (suc (suc (suc room))) _ (omega arith)
