-- What is content_of at a path after a change.
use Rattle.std.proofs.Common.{◌≡◌, ◌++◌, ℕ, Bool, true, false, cond, Option, Some, None, refl, ap, ◌∙◌}
use Rattle.std.specs.Option.{option_map, option_or, option_and_then}
use Rattle.std.specs.FinMap.{find, put}
use Rattle.dav_core.specs.Path.{Path, path_cmp, is_same_path, is_at_or_under, rest_after, parent_of}
use Rattle.dav_core.specs.Property.{Properties}
use Rattle.dav_core.specs.World.{Kind, Node, Nodes, World, fresh, adjust, touched, modified_at, with_new, prune, moved}
use Rattle.dav_core.proofs.Theorems.{find-adjust, find-put_node, find-prune, find-moved, renamed_world}
use Rattle.dav_engine.specs.Inside.{Content, content_of}

-- what is content_of at a path
abbrev pub content_at : Path → Nodes → Option Content
content_at q ns = option_map content_of (find path_cmp q ns)

pub content_mapped : (f : Node → Node) (g : Content → Content) → ((n : Node) → content_of (f n) ≡ g (content_of n)) → (b : Bool) (o : Option Node)
    → option_map content_of (cond b (option_map f o) o) ≡ cond b (option_map g (option_map content_of o)) (option_map content_of o)
content_mapped f g same true None = refl
content_mapped f g same true (Some n) = ap (λ (s : Content). Some s) (same n)
content_mapped f g same false o = refl

-- a change of the node at a path
pub content-adjust : (p : Path) (f : Node → Node) (g : Content → Content) → ((n : Node) → content_of (f n) ≡ g (content_of n)) → (q : Path) (ns : Nodes)
    → content_at q (adjust p f ns) ≡ cond (is_same_path p q) (option_map g (content_at q ns)) (content_at q ns)
content-adjust p f g same q ns = ap (option_map content_of) (find-adjust p f q ns) ∙ content_mapped f g same (is_same_path p q) (find path_cmp q ns)

itself : (b : Bool) (o : Option Content) → cond b (option_map (λ (s : Content). s) o) o ≡ o
itself true None = refl
itself true (Some s) = refl
itself false o = refl

-- a time is not content_of
pub content-touched : (p : Path) (now : ℕ) (q : Path) (ns : Nodes) → content_at q (touched p now ns) ≡ content_at q ns
content-touched p now q ns = content-adjust (parent_of p) (modified_at now) (λ s. s) (λ n. refl) q ns ∙ itself (is_same_path (parent_of p) q) (content_at q ns)

put_content : (b : Bool) (n : Node) (o : Option Node) → option_map content_of (cond b (Some n) o) ≡ cond b (Some (content_of n)) (option_map content_of o)
put_content true n o = refl
put_content false n o = refl

pub content-put : (p : Path) (n : Node) (q : Path) (ns : Nodes) → content_at q (put path_cmp p n ns) ≡ cond (is_same_path q p) (Some (content_of n)) (content_at q ns)
content-put p n q ns = ap (option_map content_of) (find-put_node q p n ns) ∙ put_content (is_same_path q p) n (find path_cmp q ns)

-- a new folder or file
pub content-new : (w : World) (p : Path) (kind : Kind) (properties : Properties) (now : ℕ) (q : Path)
    → content_at q (with_new w p kind properties now).nodes ≡ cond (is_same_path q p) (Some (kind, properties)) (content_at q w.nodes)
content-new w p kind properties now q =
    content-touched p now q (put path_cmp p (record (fresh w.next kind now) { properties = properties }) w.nodes)
    ∙ content-put p (record (fresh w.next kind now) { properties = properties }) q w.nodes

prune_content : (b : Bool) (o : Option Node) → option_map content_of (cond b None o) ≡ cond b None (option_map content_of o)
prune_content true o = refl
prune_content false o = refl

or_content : (a b : Option Node) → option_map content_of (option_or a b) ≡ option_or (option_map content_of a) (option_map content_of b)
or_content None b = refl
or_content (Some n) b = refl

then_content : (f : Path → Option Node) (o : Option Path) → option_map content_of (option_and_then f o) ≡ option_and_then (λ rest. option_map content_of (f rest)) o
then_content f None = refl
then_content f (Some rest) = refl

-- a removal
pub content-removed : (w : World) (p : Path) (now : ℕ) (q : Path) → content_at q (touched p now (prune p w.nodes)) ≡ cond (is_at_or_under q p) None (content_at q w.nodes)
content-removed w p now q =
    content-touched p now q (prune p w.nodes) ∙ ap (option_map content_of) (find-prune p q w.nodes) ∙ prune_content (is_at_or_under q p) (find path_cmp q w.nodes)

-- a move: what is at its end came along, what was there or at its beginning is gone, and the rest stays
abbrev pub content_moved : Path → Path → (Path → Option Content) → Path → Option Content
content_moved from to f q = option_or (option_and_then (λ rest. f (from ++ rest)) (rest_after to q)) (cond (is_at_or_under q to) None (cond (is_at_or_under q from) None (f q)))

pub content-renamed : (w : World) (from to : Path) (now : ℕ) (q : Path)
    → content_at q (renamed_world w from to now).nodes ≡ content_moved from to (λ p. content_at p w.nodes) q
content-renamed w from to now q =
    content-touched from now q (touched to now (moved from to w.nodes)) ∙ content-touched to now q (moved from to w.nodes)
    ∙ ap (option_map content_of) (find-moved from to q w.nodes)
    ∙ or_content (option_and_then (λ rest. find path_cmp (from ++ rest) w.nodes) (rest_after to q)) (cond (is_at_or_under q to) None (cond (is_at_or_under q from) None (find path_cmp q w.nodes)))
    ∙ ap (λ o. option_or o (option_map content_of (cond (is_at_or_under q to) None (cond (is_at_or_under q from) None (find path_cmp q w.nodes))))) (then_content (λ rest. find path_cmp (from ++ rest) w.nodes) (rest_after to q))
    ∙ ap (option_or (option_and_then (λ rest. content_at (from ++ rest) w.nodes) (rest_after to q)))
    (prune_content (is_at_or_under q to) (cond (is_at_or_under q from) None (find path_cmp q w.nodes)) ∙ ap (cond (is_at_or_under q to) None) (prune_content (is_at_or_under q from) (find path_cmp q w.nodes)))
