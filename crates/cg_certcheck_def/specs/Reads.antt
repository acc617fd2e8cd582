-- The derivation that a certificate's nodes spell for a term, whatever they are: its shape is the term's, and its mark strings are the nodes'.
use Rattle.std.specs.Prelude.{◌+◌, List, drop}
use Rattle.cg_base.specs.declared.place.Place.{Place}
use Rattle.cg_cert.specs.declared.cert.CertNode.{CertNode}
use Rattle.cg_core.specs.declared.derivation.Node.TheVariants as nodes
use Rattle.cg_core.specs.Derivations as trees
use Rattle.cg_core.specs.Derivations.{Derivation, Derivations, derivation}
use Rattle.cg_core.specs.Terms.{Tree, term, Shape, var, unit, bool, lit, fun, op, app, lets, let_bang, if_else, con, case_of, esac, struct, member, take_field, put, cast, annot, none, more, Named, end, field}
use Rattle.cg_certcheck_def.specs.Events.{behind, marks_next, strings_at, size}
use Rattle.cg_typing.specs.Trees.{leaf, one, two, three}

abbrev mutual
  pub tree_at : List CertNode → Tree Place → Derivation
  tree_at ns (term place shape) = tree_of ns shape

  pub tree_of : List CertNode → Shape Place → Derivation
  tree_of ns (var i) = leaf nodes.Var
  tree_of ns unit = leaf nodes.Unit
  tree_of ns (bool b) = leaf nodes.Bool
  tree_of ns (lit value) = leaf nodes.Lit
  tree_of ns (fun f args) = leaf nodes.Fun
  tree_of ns (op o (more x none)) = one nodes.Op (tree_at (behind ns) x)
  tree_of ns (op o (more l (more r none))) = two nodes.Op (marks_next ns) (tree_at (behind ns) l) (tree_at (drop (size l) (behind ns)) r)
  tree_of ns (op o ts) = leaf nodes.Op
  tree_of ns (app f x) = two nodes.App (marks_next ns) (tree_at (behind ns) f) (tree_at (drop (size f) (behind ns)) x)
  tree_of ns (lets binder e k) = two nodes.Let (marks_next ns) (tree_at (behind ns) e) (tree_at (drop (size e) (behind ns)) k)
  tree_of ns (let_bang observers binder e k) = two nodes.LetBang (marks_next ns) (tree_at (behind ns) e) (tree_at (drop (size e) (behind ns)) k)
  tree_of ns (if_else c x y) =
      three nodes.If (marks_next ns) (tree_at (behind ns) c) (tree_at (drop (size c) (behind ns)) x) (tree_at (drop (size c + size x) (behind ns)) y)
  tree_of ns (con name e) = one nodes.Con (tree_at (behind ns) e)
  tree_of ns (case_of e at binder x y) =
      three nodes.Case (marks_next ns) (tree_at (behind ns) e) (tree_at (drop (size e) (behind ns)) x) (tree_at (drop (size e + size x) (behind ns)) y)
  tree_of ns (esac at e) = one nodes.Esac (tree_at (behind ns) e)
  tree_of ns (struct fs) = derivation nodes.Struct (strings_at ns) (trees_at (behind ns) fs)
  tree_of ns (member e at) = one nodes.Member (tree_at (behind ns) e)
  tree_of ns (take_field e at rest binder k) = two nodes.Take (marks_next ns) (tree_at (behind ns) e) (tree_at (drop (size e) (behind ns)) k)
  tree_of ns (put e at x) = two nodes.Put (marks_next ns) (tree_at (behind ns) e) (tree_at (drop (size e) (behind ns)) x)
  tree_of ns (cast e) = one nodes.Cast (tree_at (behind ns) e)
  tree_of ns (annot e a) = one nodes.Annot (tree_at (behind ns) e)

  -- of fields in their order
  pub trees_at : List CertNode → Named Place → Derivations
  trees_at ns end = trees.done
  trees_at ns (field name e fs) = trees.part (tree_at ns e) (trees_at (drop (size e) ns) fs)
