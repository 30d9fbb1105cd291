-- What the readers of types read, as nodes.
use Rattle.std.specs.Prelude.{◌≡◌, List, ◌++◌}
use Rattle.hb_tokens.specs.declared.token.Token.{Token}
use Rattle.hb_tree.specs.Types.{TypeExpr}
use Rattle.hb_tree.specs.declared.types.PredExpr.{PredExpr}
use Rattle.hb_grammar.specs.Declarations.{ReadsQualified}
use Rattle.hb_grammar.specs.Types.{ReadsType, ReadsAtype, ReadsPred, ReadsContext}
use Rattle.hb_read_types.specs.declared.node.TypeNode.{TypeNode}
use Rattle.hb_read_types.specs.Nodes.{type_nodes, pred_nodes, context_nodes}

-- the tokens ts begin with a type that has these nodes, and us are left
pub record TypeNodesRead (ts : List Token) (nodes : List TypeNode) (us : List Token) : Type 0 where
  pub tree : TypeExpr
  pub read : ReadsType ts tree us
  pub nodes_of : nodes ≡ type_nodes tree

-- the same of a type that stands by itself
pub record AtypeNodesRead (ts : List Token) (nodes : List TypeNode) (us : List Token) : Type 0 where
  pub tree : TypeExpr
  pub read : ReadsAtype ts tree us
  pub nodes_of : nodes ≡ type_nodes tree

-- the same of a predicate
pub record PredNodesRead (ts : List Token) (nodes : List TypeNode) (us : List Token) : Type 0 where
  pub tree : PredExpr
  pub read : ReadsPred ts tree us
  pub nodes_of : nodes ≡ pred_nodes tree

-- the same of a context
pub record ContextNodesRead (ts : List Token) (nodes : List TypeNode) (us : List Token) : Type 0 where
  pub tree : List PredExpr
  pub read : ReadsContext ts tree us
  pub nodes_of : nodes ≡ context_nodes tree

-- the same of a type that may have a context before it; without one the context is empty
pub record QualifiedNodesRead (ts : List Token) (nodes : List TypeNode) (us : List Token) : Type 0 where
  pub context : List PredExpr
  pub tree : TypeExpr
  pub read : ReadsQualified ts context tree us
  pub nodes_of : nodes ≡ context_nodes context ++ type_nodes tree
