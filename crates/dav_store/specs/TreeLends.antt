-- What a tree ends as, where a `&mut` to the value of one of its nodes is returned.
use Rattle.std.specs.Prelude.{ℕ, Result}
use Rattle.std.specs.Borrow.{Lends, LendsIfOk, Fml, RattleType, MutBor}
use Rattle.std.specs.HashMap.Lent.{HashMembers}
use Rattle.dav_store.specs.Tree.{Tree, Node, with_value}
use Rattle.dav_store.specs.contracts.tree.node.Node.{the_row as node_row}
use Rattle.dav_store.specs.contracts.tree.nodes.Nodes.{the_row as nodes_row}
use Rattle.dav_store.specs.contracts.tree.Tree.{the_row as tree_row}

module _ (K D : RattleType) (key : HashMembers K.Denot) where
  -- once the borrow of a node's own value ends, the node has the last value that was written through r
  abbrev pub lends_own_value : MutBor (Node K.Denot D.Denot) → MutBor D.Denot → Fml
  lends_own_value s r =
      Lends
      (node_row K D (record { eq = key.eq }) (record { hash_input = key.hash_input }))
      D s r (λ w. record s.now { value = w })

  -- Once the borrow of the value of a number ends, among the nodes of a tree, the node of that number has the last value that was written
  -- through r, and nothing else has changed; after an error all is as it was.
  abbrev pub lends_value_in : {E : Type 0} → MutBor (Tree K.Denot D.Denot) → ℕ
      → Result (MutBor D.Denot) E → Fml
  lends_value_in s n r =
      LendsIfOk
      (nodes_row K D (record { eq = key.eq }) (record { hash_input = key.hash_input }))
      D s r (with_value s.now n) s.now

  -- Once the borrow of the value of a number ends, the node of that number has the last value that was written through r, and nothing
  -- else in the tree has changed; after an error the tree is as it was.
  abbrev pub lends_value : {E : Type 0} → MutBor (Tree K.Denot D.Denot) → ℕ
      → Result (MutBor D.Denot) E → Fml
  lends_value s n r =
      LendsIfOk
      (tree_row K D (record { eq = key.eq }) (record { hash_input = key.hash_input }))
      D s r (with_value s.now n) s.now
