-- What is shut ends nothing, and stays shut.
use Rattle.std.proofs.Common.{◌≡◌, List, refl, ap, false, None}
use Rattle.cg_ctree.specs.declared.tree.CDecl.{CDecl}
use Rattle.cg_cread_parts.specs.Declarations.{declaration_step, declaration_end, declaration_parts, declaration_struct, declaration_is_open, declared, is_whole, on_row, row_step, row_is_open, row_is_whole}
use Rattle.cg_cread_parts.specs.Heads.{opened, on_name, parted, closed, on_param, head_step, head_end, head_struct, head_is_open}
use Rattle.cg_cread_parts.specs.Operands.{operand_step, operand_end, operand_is_open}
use Rattle.cg_cread_parts.specs.Symbols.{Symbol, opening, closing, comma, semicolon}
use Rattle.cg_cread_parts.specs.declared.declaration.Declaration.{Declaration}
use Rattle.cg_cread_parts.specs.declared.declaration.Declaration.TheVariants as declaration
use Rattle.cg_cread_parts.specs.declared.declaration.Row.{Row}
use Rattle.cg_cread_parts.specs.declared.head.Signature.{Signature}
use Rattle.cg_cread_parts.specs.declared.head.Head.{Head}
use Rattle.cg_cread_parts.specs.declared.head.Head.TheVariants as head
use Rattle.cg_cread_parts.specs.declared.operand.Operand.{Operand}
use Rattle.cg_cread_parts.specs.declared.operand.Operand.TheVariants as operand

-- ---- operands

pub operand_none : (m : Operand) → operand_is_open m ≡ false → operand_end m ≡ None
operand_none operand.Stuck h = refl
operand_none _ h = cc

pub operand_shut : (m : Operand) (y : Symbol) → operand_is_open m ≡ false → operand_is_open (operand_step m y) ≡ false
operand_shut operand.Stuck y h = refl
operand_shut _ y h = cc

-- ---- declarations

declaration_none : (m : Declaration) → declaration_is_open m ≡ false → declaration_end m ≡ None
declaration_none declaration.Stuck h = refl
declaration_none _ h = cc

declaration_shut : (m : Declaration) (y : Symbol) → declaration_is_open m ≡ false → declaration_is_open (declaration_step m y) ≡ false
declaration_shut declaration.Stuck y h = refl
declaration_shut _ y h = cc

parts_none : (m : Declaration) → declaration_is_open m ≡ false → declaration_parts m ≡ None
parts_none declaration.Stuck h = refl
parts_none _ h = cc

no_struct : (m : Declaration) → declaration_is_open m ≡ false → declaration_struct m ≡ None
no_struct declaration.Stuck h = refl
no_struct _ h = cc

not_whole : (m : Declaration) → declaration_is_open m ≡ false → is_whole m ≡ false
not_whole declaration.Stuck h = refl
not_whole _ h = cc

pub row_not_whole : (r : Row) → row_is_open r ≡ false → row_is_whole r ≡ false
row_not_whole r h = not_whole r.at h

on_row_shut : (ds : List CDecl) (m : Declaration) (y : Symbol) → declaration_is_open m ≡ false → row_is_open (on_row ds m y) ≡ false
on_row_shut ds m semicolon h = ap (λ z. row_is_open (declared ds z)) (declaration_none m h)
on_row_shut ds m y h = declaration_shut m y h

pub row_shut : (r : Row) (y : Symbol) → row_is_open r ≡ false → row_is_open (row_step r y) ≡ false
row_shut r y h = on_row_shut r.before r.at y h

pub head_none : (m : Head) → head_is_open m ≡ false → head_end m ≡ None
head_none (head.InName m) h = refl
head_none (head.InParam s m) h = refl
head_none head.Stuck h = refl
head_none _ h = cc

pub no_head_struct : (m : Head) → head_is_open m ≡ false → head_struct m ≡ None
no_head_struct (head.InName m) h = no_struct m h
no_head_struct (head.InParam s m) h = refl
no_head_struct head.Stuck h = refl
no_head_struct _ h = cc

name_shut : (m : Declaration) (y : Symbol) → declaration_is_open m ≡ false → head_is_open (on_name m y) ≡ false
name_shut m opening h = ap (λ z. head_is_open (opened z)) (parts_none m h)
name_shut m y h = declaration_shut m y h

param_shut : (s : Signature) (m : Declaration) (y : Symbol) → declaration_is_open m ≡ false → head_is_open (on_param s m y) ≡ false
param_shut s m comma h = ap (λ z. head_is_open (parted s z)) (declaration_none m h)
param_shut s m closing h = ap (λ z. head_is_open (closed s z)) (declaration_none m h)
param_shut s m y h = declaration_shut m y h

pub head_shut : (m : Head) (y : Symbol) → head_is_open m ≡ false → head_is_open (head_step m y) ≡ false
head_shut (head.InName m) y h = name_shut m y h
head_shut (head.InParam s m) y h = param_shut s m y h
head_shut head.Stuck y h = refl
head_shut _ y h = cc
