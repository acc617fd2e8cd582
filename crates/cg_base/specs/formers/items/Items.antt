-- How a list stores its items, so that a type may hold itself in one: a list is seen as the plain list of its
-- items, which is what its vector holds.
use mathlib.Core.Path.{◌≡◌, refl, sym}
use mathlib.Core.List.{List, []}
use mathlib.Core.Former.{Former, this, list, via, children}
use base.Stored.{code_map}
use denote.RattleType.{RattleType}
use denote.HoleLaws.{Alike}
use denote.HolePlaces.{Recodes, struct_places, laid}
use denote.Hole.Carrier.{listed, list-listed}
use denote.Hole.Fix.{over}
use denote.Param.Weighed.{Weighed, w_list}
use denote.Model.Placed.{view_places}
use Rattle.std.specs.formers.vec.Vec as vectors
use Rattle.std.specs.declared.alloc.Global.{Global}
use Rattle.std.specs.contracts.alloc.Global as allocator
use Rattle.std.specs.contracts.impls.GlobalAllocator.TheImpl.{ghosts}
use Rattle.cg_base.specs.declared.items.Items.TheInside.{Inside}
use Rattle.cg_base.specs.declared.items.Items.TheView.{view, invariant}
use Rattle.cg_base.specs.contracts.items.Items as outer
use Rattle.cg_base.specs.contracts.items.Items.TheInside as inner

-- as a shape, it is a list
abbrev pub the_former : Former {0} → Former {0}
the_former held = list held

-- it weighs what the heaviest of its items weighs
abbrev pub the_weighed : {held : Former {0}} → Weighed held → Weighed (the_former held)
the_weighed = λ weight. w_list weight

-- with no items, it ends a type that holds itself
pub the_empty : List ⊥
the_empty = []

-- its items, in order
abbrev pub the_items : (Item : Type 0) → List Item → List Item
the_items Item items = items

pub the_items_listed : (Item : Type 0) (items : List Item) → listed _ (children (the_former this) Item items) ≡ the_items Item items
the_items_listed Item items = list-listed Item items

-- its one field, a vector, has the shape of a vector
abbrev stored : Former {0}
stored = via (vectors.the_former this Global) Inside (λ Item inside. inside.items) (λ Item vector. record { items = vector }) (λ Item inside. refl) (λ Item vector. refl)

module _ (Row Other : RattleType) (along : Row.Denot → Other.Denot) where
  -- where the items of two types lie alike, so do the lists of them
  pub the_places : Alike Row Other along → Alike (outer.the_row Row) (outer.the_row Other) ((the_former this).map Row.Denot Other.Denot along)
  the_places alike =
      let of_fields = struct_places (inner.the_type Row) (inner.the_type Other) (vectors.mapped along, tt) _ (λ d. refl) refl
      (laid _ _ _ (vectors.the_places allocator.the_row ghosts Row Other along alike), tt) in
      view_places stored (list this) view (λ X Y k inside. refl) (λ X inside. refl) Row.Denot Other.Denot along (outer.the_row Row).coded (outer.the_row Other).coded
      (invariant Row.Denot) (invariant Other.Denot) (λ inside p q. refl) (λ inside p q. refl) (λ inside e. tt) (λ inside e. tt)
      (over (inner.the_row Row)) (over (inner.the_row Other)) of_fields

  -- and so do their codes
  pub the_codes_placed : Recodes Row Other along → Recodes (outer.the_row Row) (outer.the_row Other) ((the_former this).map Row.Denot Other.Denot along)
  the_codes_placed recodes items = sym (code_map Row.coded.code Other.coded.code along (λ item. sym (recodes item)) items)
