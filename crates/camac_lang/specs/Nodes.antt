-- How an expression lies in a list of nodes: its operands, and then its operator.
use Rattle.std.specs.Prelude.{◌≡◌, ℕ, ◌+◌, List, [], ◌∷◌, ◌++◌, slice_get, unwrap_or}
use Rattle.camac_lang.specs.Tree.{Expression, number, variable, group, add, subtract, multiply, divide, remainder}
use Rattle.camac_lang.specs.declared.expression.Node.{Node}
use Rattle.camac_lang.specs.declared.expression.Node.TheVariants as node
use Rattle.camac_lang.specs.declared.expression.Nodes.{Nodes}
use Rattle.camac_lang.specs.declared.expression.Nodes.TheVariants.{One, Many}

-- how many nodes an expression has
abbrev pub size : Expression → ℕ
size (number n) = 1
size (variable x) = 1
size (group e) = size e + 1
size (add a b) = size a + size b + 1
size (subtract a b) = size a + size b + 1
size (multiply a b) = size a + size b + 1
size (divide e d) = size e + 1
size (remainder e d) = size e + 1

-- The nodes of an expression: those of its operands come first. An operator between two operands tells how many nodes the right one has.
abbrev pub nodes_of : Expression → List Node
nodes_of (number n) = node.Number n ∷ []
nodes_of (variable x) = node.Variable x ∷ []
nodes_of (group e) = nodes_of e ++ node.Group ∷ []
nodes_of (add a b) = nodes_of a ++ nodes_of b ++ node.Add (size b) ∷ []
nodes_of (subtract a b) = nodes_of a ++ nodes_of b ++ node.Subtract (size b) ∷ []
nodes_of (multiply a b) = nodes_of a ++ nodes_of b ++ node.Multiply (size b) ∷ []
nodes_of (divide e d) = nodes_of e ++ node.Divide d ∷ []
nodes_of (remainder e d) = nodes_of e ++ node.Remainder d ∷ []

-- what a node makes of the expressions before it, of which the last one comes first
abbrev pub with_node : Node → List Expression → List Expression
with_node (node.Number n) es = number n ∷ es
with_node (node.Variable x) es = variable x ∷ es
with_node node.Group (e ∷ es) = group e ∷ es
with_node (node.Add k) (b ∷ a ∷ es) = add a b ∷ es
with_node (node.Subtract k) (b ∷ a ∷ es) = subtract a b ∷ es
with_node (node.Multiply k) (b ∷ a ∷ es) = multiply a b ∷ es
with_node (node.Divide d) (e ∷ es) = divide e d ∷ es
with_node (node.Remainder d) (e ∷ es) = remainder e d ∷ es
with_node n es = es

abbrev pub with_nodes : List Node → List Expression → List Expression
with_nodes [] es = es
with_nodes (n ∷ ns) es = with_nodes ns (with_node n es)

-- the expression that these are the nodes of
unfoldable pub expression_in : List Node → Expression
expression_in ns = unwrap_or (slice_get (with_nodes ns []) 0) (number 0)

-- these are the nodes of an expression, all of them and no others
abbrev pub AreWhole : List Node → Type 0
AreWhole ns = ns ≡ nodes_of (expression_in ns)

-- a single node, or those of an operator and of its operands
abbrev pub listed : Nodes → List Node
listed (One ns) = ns
listed (Many ns) = ns.items
