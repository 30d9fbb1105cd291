-- What a list of laid-out tokens is read as, and why it is refused.
use Rattle.std.specs.Prelude.{◌≡◌, List, [], ◌∷◌, ◌++◌, codes, Some, Result, IfOk, IfErr}
use Rattle.hb_base.specs.declared.place.Place.{Place}
use Rattle.hb_base.specs.declared.refusal.Refusal.{Refusal}
use Rattle.hb_base.specs.declared.refusal.Fault.{Fault}
use Rattle.hb_base.specs.Faults.{IfRefused}
use Rattle.hb_base.specs.declared.refusal.Code.TheVariants.{E04, E29}
use Rattle.hb_tokens.specs.declared.token.Token.{Token}
use Rattle.hb_tree.specs.declared.declaration.Program.{Program}
use Rattle.hb_grammar.specs.Declarations.{Derives}
use Rattle.hb_read_declarations.specs.declared.node.DeclNode.{DeclNode}
use Rattle.hb_read_declarations.specs.Nodes.{program_nodes}
use Rattle.hb_depth.specs.Depth.{too_deep, IsFirst}

-- the tokens of some program begin with these
pub record CanGoOn (ts : List Token) : Type 0 where
  pub rest : List Token
  pub program : Program
  pub derives : Derives (ts ++ rest) program

-- the first wrong token stands at this place: those before it begin a program, and with it they begin none
pub record FirstWrong (ts : List Token) (place : Place) : Type 0 where
  pub before : List Token
  pub token : Token
  pub after : List Token
  pub tokens : ts ≡ before ++ token ∷ after
  pub good : CanGoOn before
  pub wrong : ¬ CanGoOn (before ++ token ∷ [])
  pub here : place ≡ token.place

-- the tokens are this program, and no form in it is nested too deep
pub record Parses (ts : List Token) (program : Program) : Type 0 where
  pub derives : Derives ts program
  pub shallow : too_deep program ≡ []

-- the refusal of a program with a form that is nested too deep: it stands at the first such form
abbrev pub IsDeepForm : Program → Refusal → Type 0
IsDeepForm program refusal = IsFirst (Some refusal.place) (too_deep program) × (refusal ≡ record { code = E29; place = refusal.place; detail = codes "depth" })

-- the first fault: the grammar breaks at a token, or the program has forms that are nested too deep, the first here
pub data FirstFault (ts : List Token) : Refusal → Type 0 where
  wrong_token : (place : Place) → FirstWrong ts place → FirstFault ts (record { code = E04; place = place; detail = codes "-" })
  deep_form : (place : Place) (program : Program) → Derives ts program → IsFirst (Some place) (too_deep program) → FirstFault ts (record { code = E29; place = place; detail = codes "depth" })

-- these are the nodes of a program that the tokens are
pub record HasNodes (ts : List Token) (nodes : List DeclNode) : Type 0 where
  pub program : Program
  pub derives : Derives ts program
  pub are : nodes ≡ program_nodes program

-- these are the nodes of some program that the grammar derives
abbrev pub AreNodes : List DeclNode → Type 0
AreNodes nodes = (ts : List Token) × HasNodes ts nodes

-- whatever program is derived and has these nodes, it is this one
abbrev pub HasTree : List DeclNode → Program → Type 0
HasTree nodes answer = (ts : List Token) (program : Program) → Derives ts program → nodes ≡ program_nodes program → answer ≡ program

-- a program that the grammar derives and that has these nodes is built, if no form in it is nested too deep; if one is, the
-- refusal stands at the first such form
pub record Builds (nodes : List DeclNode) (result : Result Program Fault) : Type 0 where
  pub built : (ts : List Token) (program : Program) → Derives ts program → nodes ≡ program_nodes program → IfOk result (λ answer. (answer ≡ program) × (too_deep program ≡ []))
  pub refused : (ts : List Token) (program : Program) → Derives ts program → nodes ≡ program_nodes program → IfErr result (IfRefused (IsDeepForm program))
