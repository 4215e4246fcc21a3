-- What a copy leaves.
use Rattle.std.proofs.Common.{◌≡◌, ℕ, ◌<◌, ◌≤◌, ◌||◌, zero, suc, Bool, true, false, List, [], ◌∷◌, ◌++◌, All, cond, if◌then◌else◌, Option, Some, None, Result, Ok, Err, ◌⊎◌, inl, inr, refl, sym, ap, subst, ◌∙◌, arith, append_assoc, append-nil}
use Rattle.std.specs.Ordering.{is_eq}
use Rattle.std.specs.Option.{option_map, is_none}
use Rattle.std.specs.FinMap.{find}
use Rattle.std.proofs.lemmas.List.{append_cancel_left}
use Rattle.std.proofs.lemmas.List.Folds.{list_any-append}
use Rattle.std.proofs.lemmas.List.Elements.{All-nil, All-cons, All-head, All-tail, All-append, All-weaker}
use Rattle.dav_core.specs.declared.errors.FsError.{FsError}
use Rattle.dav_core.specs.declared.errors.FsError.TheVariants as fs
use Rattle.dav_core.specs.declared.fs.DavMetaData.{DavMetaData}
use Rattle.dav_core.specs.Asking.{Metadata, ReadDir, EntryMetadata, CreateDir, Copy, StoreState, Asks}
use Rattle.dav_core.specs.CallLaws.{IsStorable}
use Rattle.dav_core.specs.Path.{Path, PathText, IsName, names, name_cmp, is_at_or_under, parent_of, are_equal}
use Rattle.dav_core.specs.Property.{Properties}
use Rattle.dav_core.specs.World.{World, Node, Kind, Folder, File, node_at, is_folder_kind, is_missing, members, last_moment, IsWorld}
use Rattle.dav_core.proofs.Theorems.{above, errors_leave_worlds, name_is_segment, parent-append, same_name}
use Rattle.dav_engine.specs.Copied.{IsPlain}
use Rattle.dav_engine.specs.Copying.{CopyFault, CopyWalk, copy, copy_file, copy_looked, copy_kind, copy_folder, copy_inside, copy_listed, copy_members, copy_seen, refused_at}
use Rattle.dav_engine.specs.CopyLaws.{is_below_fault, copied_properties, IsCopied, IsCopyFrom, LeavesCopies, OnlyCopies, CopiesLeaveCopies}
use Rattle.dav_engine.specs.Folder.{child_of, room_at}
use Rattle.dav_engine.specs.Method.{◌>>=◌, gives}
use Rattle.dav_engine.specs.Plan.{Ask, Locks, Ran}
use Rattle.dav_engine.specs.RemovalLaws.{timeless, timeless_at}
use Rattle.dav_engine.proofs.CallWorlds.{did, did_leave, asks_keep, asks_tell}
use Rattle.dav_engine.proofs.ChildLemmas.{names_child}
use Rattle.dav_engine.proofs.CopyEffects.{found_did, Put, folder_did, copy_did, there_by, folder_above, member_listed}
use Rattle.dav_engine.proofs.CopyHeaderLemmas.{plain_other}
use Rattle.dav_engine.proofs.CopyMoveLemmas.{only_copy}
use Rattle.dav_engine.proofs.FaultLemmas.{rest as rest_of, at_path, below_trans, member_below, one_holds, first_holds, second_holds}
use Rattle.dav_engine.proofs.PlainLemmas.{plain_child, child_prefix, equal_names, names_equal}
use Rattle.dav_engine.proofs.RunLemmas.{first, gave, parts, only_list}
use Rattle.dav_engine.proofs.SurvivorLemmas.{listed}

-- ---- paths

pub at_append : (p r : Path) → is_at_or_under (p ++ r) p ≡ true
at_append p r = at_path p (p ++ r) r refl

pub at_itself : (p : Path) → is_at_or_under p p ≡ true
at_itself p = at_path p p [] (sym (append-nil p))

below_through : (t d r : Path) → is_at_or_under d t ≡ true → is_at_or_under (d ++ r) t ≡ true
below_through t d r h = below_trans t d (d ++ r) h (at_append d r)

pub clash : {A : Type 0} (b : Bool) → b ≡ false → b ≡ true → A
clash true h k = cc
clash false h k = cc

member_by : (t s : Path) (x : List ℕ) (r : Path) → is_at_or_under s t ≡ false → s ++ x ∷ [] ≡ t ++ r → s ++ x ∷ [] ≡ t
member_by t s x [] off is = is ∙ append-nil t
member_by t s x (y ∷ r) off is =
    let up : s ≡ t ++ parent_of (y ∷ r) = sym (parent-append s x [] ∙ append-nil s) ∙ ap parent_of is ∙ parent-append t y r in
    clash (is_at_or_under s t) off (at_path t s (parent_of (y ∷ r)) up)

-- a member of what isn't at t or below it is at t or below it only as t itself
member_outside : (t s : Path) (x : List ℕ) → is_at_or_under s t ≡ false → is_at_or_under (s ++ x ∷ []) t ≡ true → s ++ x ∷ [] ≡ t
member_outside t s x off h = let (r, is) = rest_of t (s ++ x ∷ []) h in member_by t s x r off is

-- ---- what a walk does

-- m is a copy of what was at p, which isn't at t or below it
pub record IsCopyOf (t : Path) (w : World) (p : Path) (m : Node) : Type 0 where
  pub source : Node
  pub was : timeless_at w p ≡ Some source
  pub outside : is_at_or_under p t ≡ false
  pub kind : m.kind ≡ source.kind
  pub properties : m.properties ≡ copied_properties source
  pub number : w.next ≤ m.number

-- it was there, or is a copy of what was at the same place of s
abbrev CameFrom : Path → Path → Path → World → Path → Node → Type 0
CameFrom t s d w q m = (timeless_at w q ≡ Some m) ⊎ ((r : Path) × (q ≡ d ++ r) × IsCopyOf t w (s ++ r) m)

-- whatever is there was there, or is a copy; and what was there is there
pub record Grown (t s d : Path) (w v : World) : Type 0 where
  pub came : (q : Path) (m : Node) → timeless_at v q ≡ Some m → (timeless_at w q ≡ Some m) ⊎ ((r : Path) × (q ≡ d ++ r) × IsCopyOf t w (s ++ r) m)
  pub kept : (q : Path) → timeless_at v q ≡ None → timeless_at w q ≡ None
  pub next : w.next ≤ v.next

grown_same : (t s d : Path) (w v : World) → v ≡ w → Grown t s d w v
grown_same t s d w v same = subst (Grown t s d w) (sym same) (record { came = λ q m h. inl h; kept = λ q h. h; next = omega arith })

module _ (t s d : Path) where
  grown_then : (w u v : World) → is_at_or_under d t ≡ true → Grown t s d w u → Grown t s d u v → Grown t s d w v
  grown_then w u v under one two = record {
    came = λ q m h. elim (two.came q m h) as (λ _. CameFrom t s d w q m) [
      | inl a ↦ one.came q m a
      | inr (r, e, c) ↦ elim (one.came (s ++ r) c.source c.was) as (λ _. CameFrom t s d w q m) [
        | inl a ↦ inr (r, e, later (s ++ r) m c a)
        | inr (r', e', c') ↦ clash (is_at_or_under (s ++ r) t) c.outside (ap (λ z. is_at_or_under z t) e' ∙ below_through t d r' under)
      ]
    ];
    kept = λ q h. one.kept q (two.kept q h);
    next = (let a = one.next in let b = two.next in omega (arith, a, b));
  }
    where
      later : (p : Path) (m : Node) (c : IsCopyOf t u p m) → timeless_at w p ≡ Some c.source → IsCopyOf t w p m
      later p m c a =
          let low = one.next in
          let high = c.number in
          record { source = c.source; was = a; outside = c.outside; kind = c.kind; properties = c.properties; number = omega (arith, low, high) }

  -- what is done at a member is done in the folder
  grown_member : (x : List ℕ) (w v : World) → Grown t (s ++ x ∷ []) (d ++ x ∷ []) w v → Grown t s d w v
  grown_member x w v one = record {
    came = λ q m h. elim (one.came q m h) as (λ _. CameFrom t s d w q m) [
      | inl a ↦ inl a
      | inr (r, e, c) ↦ inr (x ∷ r, e ∙ append_assoc d (x ∷ []) r, subst (λ (p : Path). IsCopyOf t w p m) (append_assoc s (x ∷ []) r) c)
    ];
    kept = one.kept;
    next = one.next;
  }

  -- one copy was put
  grown_put : (w v : World) (kind : Kind) (properties : Properties) (source : Node) → Put w d kind properties v → w.next ≤ v.next
      → timeless_at w s ≡ Some source → kind ≡ source.kind → properties ≡ copied_properties source → is_at_or_under s t ≡ false → Grown t s d w v
  grown_put w v kind properties source put next was same like off = record {
    came = λ q m h. elim (put.came q m h) as (λ _. CameFrom t s d w q m) [
      | inl a ↦ inl a
      | inr (e, is) ↦ inr ([], e ∙ sym (append-nil d), subst (λ (p : Path). IsCopyOf t w p m) (sym (append-nil s)) (subst (IsCopyOf t w s) (sym is) made))
    ];
    kept = put.kept;
    next = next;
  }
    where
      made : IsCopyOf t w s put.node
      made = record { source = source; was = was; outside = off; kind = put.kind_is ∙ same; properties = put.properties_are ∙ like; number = put.number }

-- ---- faults

-- a fault names this path or its place, or what is above them
abbrev Reported : List CopyFault → Path → Path → Type 0
Reported faults p q = (is_below_fault faults p || is_below_fault faults q) ≡ true

by_source : (p : PathText) (e : FsError) (r q : Path) → Reported ((p, e) ∷ []) (names p ++ r) q
by_source p e r q = ap (λ b. (b || false) || is_below_fault ((p, e) ∷ []) q) (at_append (names p) r)

by_place : (p : PathText) (e : FsError) (r q : Path) → Reported ((p, e) ∷ []) q (names p ++ r)
by_place p e r q = second_holds (is_below_fault ((p, e) ∷ []) q) (is_below_fault ((p, e) ∷ []) (names p ++ r)) (ap (λ b. b || false) (at_append (names p) r))

wider_left : (a b c d : Bool) → (a || b) ≡ true → ((a || c) || (b || d)) ≡ true
wider_left true b c d h = refl
wider_left false true true d h = refl
wider_left false true false d h = refl
wider_left false false c d h = cc

wider_right : (a b c d : Bool) → (c || d) ≡ true → ((a || c) || (b || d)) ≡ true
wider_right true b c d h = refl
wider_right false b true d h = refl
wider_right false true false d h = refl
wider_right false false false d h = h

module _ (xs ys : List CopyFault) (p q : Path) where
  both_reported : (is_below_fault (xs ++ ys) p || is_below_fault (xs ++ ys) q) ≡ ((is_below_fault xs p || is_below_fault ys p) || (is_below_fault xs q || is_below_fault ys q))
  both_reported =
      ap (λ b. b || is_below_fault (xs ++ ys) q) (list_any-append (λ f. is_at_or_under p (names f.0)) xs ys)
      ∙ ap (λ b. (is_below_fault xs p || is_below_fault ys p) || b) (list_any-append (λ f. is_at_or_under q (names f.0)) xs ys)

  reported_left : Reported xs p q → Reported (xs ++ ys) p q
  reported_left h = both_reported ∙ wider_left (is_below_fault xs p) (is_below_fault xs q) (is_below_fault ys p) (is_below_fault ys q) h

  reported_right : Reported ys p q → Reported (xs ++ ys) p q
  reported_right h = both_reported ∙ wider_right (is_below_fault xs p) (is_below_fault xs q) (is_below_fault ys p) (is_below_fault ys q) h

-- a fault names what is at s or d, or below them
abbrev Below : Path → Path → CopyFault → Type 0
Below s d f = (is_at_or_under (names f.0) s || is_at_or_under (names f.0) d) ≡ true

below_source : (s : PathText) (e : FsError) (d : Path) → All (Below (names s) d) ((s, e) ∷ [])
below_source s e d =
    All-cons (Below (names s) d) (s, e) [] (first_holds (is_at_or_under (names s) (names s)) (is_at_or_under (names s) d) (at_itself (names s))) (All-nil (Below (names s) d))

below_place : (s : Path) (d : PathText) (e : FsError) → All (Below s (names d)) ((d, e) ∷ [])
below_place s d e =
    All-cons (Below s (names d)) (d, e) [] (second_holds (is_at_or_under (names d) s) (is_at_or_under (names d) (names d)) (at_itself (names d))) (All-nil (Below s (names d)))

below_member : (s d : Path) (x : List ℕ) (f : CopyFault) → Below (s ++ x ∷ []) (d ++ x ∷ []) f → Below s d f
below_member s d x f h = elim (one_holds (is_at_or_under (names f.0) (s ++ x ∷ [])) (is_at_or_under (names f.0) (d ++ x ∷ [])) h) [
  | inl a ↦ first_holds (is_at_or_under (names f.0) s) (is_at_or_under (names f.0) d) (member_below s x (names f.0) a)
  | inr b ↦ second_holds (is_at_or_under (names f.0) s) (is_at_or_under (names f.0) d) (member_below d x (names f.0) b)
]

-- ---- what parts of a walk come to

-- at q is a copy of n that was made since
pub record HasCopy (w v : World) (q : Path) (n : Node) : Type 0 where
  pub copy : Node
  pub there : timeless_at v q ≡ Some copy
  pub kind : copy.kind ≡ n.kind
  pub properties : copy.properties ≡ copied_properties n
  pub number : w.next ≤ copy.number

-- n, which was at this path of s, has its copy at that of d; or a fault tells of it
abbrev Has : World → World → List CopyFault → Path → Path → Node → Type 0
Has w v faults p q n = Reported faults p q ⊎ HasCopy w v q n

has_since : (w u v : World) (q : Path) (n : Node) → w.next ≤ u.next → HasCopy u v q n → HasCopy w v q n
has_since w u v q n low c =
    let high = c.number in
    record { copy = c.copy; there = c.there; kind = c.kind; properties = c.properties; number = omega (arith, low, high) }

module _ (t s d : Path) (w u : World) (under : is_at_or_under d t ≡ true) (grown : Grown t s d w u) where
  -- what is outside the place of the whole copy was there
  was_there : (p : Path) (m : Node) → is_at_or_under p t ≡ false → timeless_at u p ≡ Some m → timeless_at w p ≡ Some m
  was_there p m out h = elim (grown.came p m h) as (λ _. timeless_at w p ≡ Some m) [
    | inl a ↦ a
    | inr (r, e, c) ↦ clash (is_at_or_under p t) out (ap (λ z. is_at_or_under z t) e ∙ below_through t d r under)
  ]

  still_by : (p : Path) (n : Node) (o : Option Node) → is_at_or_under p t ≡ false → timeless_at w p ≡ Some n → timeless_at u p ≡ o → timeless_at u p ≡ Some n
  still_by p n None out h is = let both : ◌≡◌ {A = Option Node} None (Some n) = sym (grown.kept p is) ∙ h in cc
  still_by p n (Some m) out h is = is ∙ sym (was_there p m out is) ∙ h

  -- and it is still there
  still_there : (p : Path) (n : Node) → is_at_or_under p t ≡ false → timeless_at w p ≡ Some n → timeless_at u p ≡ Some n
  still_there p n out h = still_by p n (timeless_at u p) out h refl

module _ (t s d : Path) (w u v : World) (under : is_at_or_under d t ≡ true) (one : Grown t s d w u) (two : Grown t s d u v) where
  later_by : (r : Path) (n : Node) (o : Option Node) → timeless_at w (s ++ r) ≡ Some n → HasCopy w u (d ++ r) n → timeless_at v (d ++ r) ≡ o → HasCopy w v (d ++ r) n
  later_by r n None h c is = let both : ◌≡◌ {A = Option Node} None (Some c.copy) = sym (two.kept (d ++ r) is) ∙ c.there in cc
  later_by r n (Some k) h c is = elim (two.came (d ++ r) k is) as (λ _. HasCopy w v (d ++ r) n) [
    | inl a ↦ record { copy = c.copy; there = is ∙ sym a ∙ c.there; kind = c.kind; properties = c.properties; number = c.number }
    | inr (r', e, g) ↦
        let path : s ++ r' ≡ s ++ r = ap (λ (p : Path). s ++ p) (sym (append_cancel_left d r r' e)) in
        let was : timeless_at w (s ++ r) ≡ Some g.source = ap (timeless_at w) (sym path) ∙ was_there t s d w u under one (s ++ r') g.source g.outside g.was in
        let both : Some g.source ≡ Some n = sym was ∙ h in
        let same : g.source ≡ n = cc in
        let low = one.next in
        let high = g.number in
        record { copy = k; there = is; kind = g.kind ∙ ap (λ (x : Node). x.kind) same; properties = g.properties ∙ ap copied_properties same; number = omega (arith, low, high) }
  ]

  -- a copy that was made is there, or another of the same
  has_later : (r : Path) (n : Node) → timeless_at w (s ++ r) ≡ Some n → HasCopy w u (d ++ r) n → HasCopy w v (d ++ r) n
  has_later r n h c = later_by r n (timeless_at v (d ++ r)) h c refl

-- a copy of s to d, where t is the place of the whole copy
pub record Copies (t s d : Path) (w : World) (faults : List CopyFault) (v : World) : Type 0 where
  pub grown : Grown t s d w v
  pub world : IsWorld v
  pub has : (r : Path) (n : Node) → timeless_at w (s ++ r) ≡ Some n → is_at_or_under (s ++ r) t ≡ false → Has w v faults (s ++ r) (d ++ r) n
  pub below : All (Below s d) faults

-- copies of members of s to d
pub record Members (t s d : Path) (entries : List (List ℕ × Bool)) (w : World) (faults : List CopyFault) (v : World) : Type 0 where
  pub grown : Grown t s d w v
  pub world : IsWorld v
  pub has : (x : List ℕ) (dir : Bool) → find name_cmp x entries ≡ Some dir → (r : Path) (n : Node) → timeless_at w (s ++ x ∷ r) ≡ Some n → is_at_or_under (s ++ x ∷ r) t ≡ false
      → Has w v faults (s ++ x ∷ r) (d ++ x ∷ r) n
  pub below : All (Below s d) faults

-- at the end of a run
settle : (P : List CopyFault → World → Type 0) (xs faults : List CopyFault) (mid new : StoreState) → (faults ≡ xs) × (new ≡ mid) → P xs mid.world → P faults new.world
settle P xs faults mid new e h = subst (λ (st : StoreState). P faults st.world) (sym e.1) (subst (λ (is : List CopyFault). P is mid.world) (sym e.0) h)

source_named : (t : Path) (s : PathText) (d : Path) (e : FsError) (w v : World) → Grown t (names s) d w v → IsWorld v → Copies t (names s) d w ((s, e) ∷ []) v
source_named t s d e w v grown world = record { grown = grown; world = world; has = λ r n h out. inl (by_source s e r (d ++ r)); below = below_source s e d }

place_named : (t s : Path) (d : PathText) (e : FsError) (w v : World) → Grown t s (names d) w v → IsWorld v → Copies t s (names d) w ((d, e) ∷ []) v
place_named t s d e w v grown world = record { grown = grown; world = world; has = λ r n h out. inl (by_place d e r (s ++ r)); below = below_place s d e }

unmoved : (w v : World) → IsWorld w → v ≡ w → IsWorld v
unmoved w v world same = subst IsWorld (sym same) world

-- one member, and then the others
module _ (t s d : Path) (x : List ℕ) (dx : Bool) (es : List (List ℕ × Bool)) (w u v : World) (xs ys : List CopyFault)
    (one : Copies t (s ++ x ∷ []) (d ++ x ∷ []) w xs u) (others : Members t s d es u ys v) where
  member_has : (y : List ℕ) (dir b : Bool) → is_at_or_under d t ≡ true → is_eq (name_cmp y x) ≡ b → cond b (Some dx) (find name_cmp y es) ≡ Some dir → (r : Path) (n : Node)
      → timeless_at w (s ++ y ∷ r) ≡ Some n → is_at_or_under (s ++ y ∷ r) t ≡ false → Has w v (xs ++ ys) (s ++ y ∷ r) (d ++ y ∷ r) n
  member_has y dir true under is here r n h out =
      let same : x ≡ y = sym (same_name y x is) in
      let from : (s ++ x ∷ []) ++ r ≡ s ++ y ∷ r = append_assoc s (x ∷ []) r ∙ ap (λ (z : List ℕ). s ++ z ∷ r) same in
      let to : (d ++ x ∷ []) ++ r ≡ d ++ y ∷ r = append_assoc d (x ∷ []) r ∙ ap (λ (z : List ℕ). d ++ z ∷ r) same in
      let has : Has w u xs (s ++ y ∷ r) (d ++ y ∷ r) n =
      subst (λ (p : Path). Has w u xs p (d ++ y ∷ r) n) from (subst (λ (q : Path). Has w u xs ((s ++ x ∷ []) ++ r) q n) to
      (one.has r n (ap (timeless_at w) from ∙ h) (ap (λ z. is_at_or_under z t) from ∙ out))) in
      elim has as (λ _. Has w v (xs ++ ys) (s ++ y ∷ r) (d ++ y ∷ r) n) [
        | inl told ↦ inl (reported_left xs ys (s ++ y ∷ r) (d ++ y ∷ r) told)
        | inr c ↦ inr (has_later t s d w u v under (grown_member t s d x w u one.grown) others.grown (y ∷ r) n h c)
      ]
  member_has y dir false under is here r n h out =
      let there = still_there t s d w u under (grown_member t s d x w u one.grown) (s ++ y ∷ r) n out h in
      elim (others.has y dir here r n there out) as (λ _. Has w v (xs ++ ys) (s ++ y ∷ r) (d ++ y ∷ r) n) [
        | inl told ↦ inl (reported_right xs ys (s ++ y ∷ r) (d ++ y ∷ r) told)
        | inr c ↦ inr (has_since w u v (d ++ y ∷ r) n one.grown.next c)
      ]

  one_then : is_at_or_under d t ≡ true → Members t s d ((x, dx) ∷ es) w (xs ++ ys) v
  one_then under = record {
    grown = grown_then t s d w u v under (grown_member t s d x w u one.grown) others.grown;
    world = others.world;
    has = λ y dir here. member_has y dir (is_eq (name_cmp y x)) under refl here;
    below = All-append (Below s d) xs ys (All-weaker (Below (s ++ x ∷ []) (d ++ x ∷ [])) (Below s d) (below_member s d x) xs one.below) others.below;
  }

-- a folder was made, and then its members were copied
module _ (t s d : Path) (w u v : World) (faults : List CopyFault) (world : IsWorld u) (made : Grown t s d w u)
    (here : (n : Node) → timeless_at w s ≡ Some n → HasCopy w u d n) (inside : Members t s d (members s u.nodes) u faults v) where
  folder_has : is_at_or_under d t ≡ true → (r : Path) (n : Node) → timeless_at w (s ++ r) ≡ Some n → is_at_or_under (s ++ r) t ≡ false → Has w v faults (s ++ r) (d ++ r) n
  folder_has under [] n h out =
      inr (has_later t s d w u v under made inside.grown [] n h
      (subst (λ (q : Path). HasCopy w u q n) (sym (append-nil d)) (here n (ap (timeless_at w) (sym (append-nil s)) ∙ h))))
  folder_has under (y ∷ r) n h out =
      let there = still_there t s d w u under made (s ++ y ∷ r) n out h in
      let (m, is, same) = there_by (node_at u (s ++ y ∷ r)) n there in
      let (dir, listing) = member_listed u world.tree s y r m is in
      elim (inside.has y dir listing r n there out) as (λ _. Has w v faults (s ++ y ∷ r) (d ++ y ∷ r) n) [
        | inl told ↦ inl told
        | inr c ↦ inr (has_since w u v (d ++ y ∷ r) n made.next c)
      ]

  made_then : is_at_or_under d t ≡ true → Copies t s d w faults v
  made_then under = record { grown = grown_then t s d w u v under made inside.grown; world = inside.world; has = folder_has under; below = inside.below }

-- what was put is a copy of what was at s
put_has : (s d : Path) (w v : World) (kind : Kind) (properties : Properties) (source : Node) → Put w d kind properties v
    → timeless_at w s ≡ Some source → kind ≡ source.kind → properties ≡ copied_properties source → (n : Node) → timeless_at w s ≡ Some n → HasCopy w v d n
put_has s d w v kind properties source put was same like n h =
    let both : Some source ≡ Some n = sym was ∙ h in
    let one : source ≡ n = cc in
    subst (HasCopy w v d) one (record { copy = put.node; there = put.here; kind = put.kind_is ∙ same; properties = put.properties_are ∙ like; number = put.number })

-- ---- the walk

-- the paths of a part of the walk, where `top` is the place of the whole copy
pub record Job (top s d : PathText) : Type 0 where
  pub prefix : s.prefix ≡ top.prefix
  pub source : IsPlain s
  pub place : IsPlain d
  pub storable : IsStorable (names d)
  pub under : is_at_or_under (names d) (names top) ≡ true

-- what is at s is at or below `top` only where s is `top`
abbrev Outside : PathText → PathText → World → Type 0
Outside top s w = (n : Node) → node_at w (names s) ≡ Some n → is_at_or_under (names s) (names top) ≡ true → names s ≡ names top

-- a walk that copies, and reports what it doesn't copy
abbrev Good : PathText → CopyWalk → Type 0
Good top walk =
    (s d : PathText) (old new : StoreState) (ls ms : Locks) (faults : List CopyFault)
    → Job top s d → IsWorld old.world → Outside top s old.world → Ran Asks (walk s d) old ls (Ok faults) new ms
    → Copies (names top) (names s) (names d) old.world faults new.world

pub one_name : (x : List ℕ) → IsStorable (x ∷ []) → IsName x
one_name x one = All-head IsName x [] one.0

pub child_names : (p : PathText) (x : List ℕ) (dir : Bool) → IsPlain p → IsStorable (x ∷ []) → names (child_of p x dir) ≡ names p ++ x ∷ []
child_names p x dir plain one = names_child p x dir (name_is_segment x (one_name x one)) (plain_other p plain)

pub storable_more : (p : Path) (x : List ℕ) → IsStorable p → IsStorable (x ∷ []) → IsStorable (p ++ x ∷ [])
storable_more p x all one = (All-append IsName p (x ∷ []) all.0 one.0, All-append (All (λ b. b < 256)) p (x ∷ []) all.1 one.1)

job_child : (top s d : PathText) (x : List ℕ) (dir : Bool) → Job top s d → IsStorable (x ∷ []) → Job top (child_of s x dir) (child_of d x dir)
job_child top s d x dir job one =
    let to : names (child_of d x dir) ≡ names d ++ x ∷ [] = child_names d x dir job.place one in
    record {
      prefix = child_prefix s x dir ∙ job.prefix;
      source = plain_child s x dir job.source (one_name x one);
      place = plain_child d x dir job.place (one_name x one);
      storable = subst IsStorable (sym to) (storable_more (names d) x job.storable one);
      under = ap (λ z. is_at_or_under z (names top)) to ∙ below_through (names top) (names d) (x ∷ []) job.under;
    }

outside_child : (top s : PathText) (x : List ℕ) (dir : Bool) → IsPlain s → IsStorable (x ∷ []) → is_at_or_under (names s) (names top) ≡ false
    → (is_at_or_under (names (child_of s x dir)) (names top) ≡ true → names (child_of s x dir) ≡ names top)
outside_child top s x dir plain one off h =
    let from : names (child_of s x dir) ≡ names s ++ x ∷ [] = child_names s x dir plain one in
    from ∙ member_outside (names top) (names s) x off (sym (ap (λ z. is_at_or_under z (names top)) from) ∙ h)

file_properties : (source : Node) → is_folder_kind source.kind ≡ false → source.properties ≡ copied_properties source
file_properties source file = sym (ap (λ b. if b then [] else source.properties) file)

a_folder : (k : Kind) → is_folder_kind k ≡ true → Folder ≡ k
a_folder Folder h = refl
a_folder (File bytes) h = cc

module _ (top : PathText) (now : ℕ) (small : now ≤ last_moment) where
  module _ (s d : PathText) (old : StoreState) (job : Job top s d) (world : IsWorld old.world) where
    -- nothing was done
    at_source : (e : FsError) (new : StoreState) → new.world ≡ old.world → Copies (names top) (names s) (names d) old.world ((s, e) ∷ []) new.world
    at_source e new same = source_named (names top) s (names d) e old.world new.world (grown_same (names top) (names s) (names d) old.world new.world same) (unmoved old.world new.world world same)

    at_place : (e : FsError) (new : StoreState) → new.world ≡ old.world → Copies (names top) (names s) (names d) old.world ((d, e) ∷ []) new.world
    at_place e new same = place_named (names top) (names s) d e old.world new.world (grown_same (names top) (names s) (names d) old.world new.world same) (unmoved old.world new.world world same)

    module _ (off : is_at_or_under (names s) (names top) ≡ false) where
      file_has : (v : World) (source : Node) → node_at old.world (names s) ≡ Some source → is_folder_kind source.kind ≡ false
          → ((n : Node) → timeless_at old.world (names s) ≡ Some n → HasCopy old.world v (names d) n)
          → (r : Path) (n : Node) → timeless_at old.world (names s ++ r) ≡ Some n → Has old.world v [] (names s ++ r) (names d ++ r) n
      file_has v source was file here [] n h =
          inr (subst (λ (q : Path). HasCopy old.world v q n) (sym (append-nil (names d))) (here n (ap (timeless_at old.world) (sym (append-nil (names s))) ∙ h)))
      file_has v source was file here (y ∷ r) n h =
          let (k, is, same) = there_by (node_at old.world (names s ++ y ∷ r)) n h in
          let (m, there, folder) = folder_above old.world world.tree (names s) y r k is in
          let both : Some m ≡ Some source = sym there ∙ was in
          let one : m ≡ source = cc in
          clash (is_folder_kind source.kind) file (ap (λ (z : Node). is_folder_kind z.kind) (sym one) ∙ folder)

      file_by : (mid new : StoreState) (ls ms : Locks) (faults : List CopyFault) (answer : Result (Unit {0}) FsError) → Asks (Copy (names s) (names d) now) old answer mid
          → Ran Asks (gives (refused_at s answer)) mid ls (Ok faults) new ms → Copies (names top) (names s) (names d) old.world faults new.world
      file_by mid new ls ms faults (Err e) one more =
          settle (Copies (names top) (names s) (names d) old.world) ((s, e) ∷ []) faults mid new (gave more) (at_source e mid (errors_leave_worlds (Copy (names s) (names d) now) old e mid one))
      file_by mid new ls ms faults (Ok u) one more =
          let kept = asks_keep {c = Copy (names s) (names d) now} (job.storable, small) world one in
          let copied = copy_did one in
          let put = copied.put in
          settle (Copies (names top) (names s) (names d) old.world) [] faults mid new (gave more) (record {
            grown = grown_put (names top) (names s) (names d) old.world mid.world copied.source.kind copied.source.properties (timeless copied.source) put kept.next
                (ap (option_map timeless) copied.there) refl (file_properties copied.source copied.file) off;
            world = kept.world;
            has = λ r n h out. file_has mid.world copied.source copied.there copied.file
                (put_has (names s) (names d) old.world mid.world copied.source.kind copied.source.properties (timeless copied.source) put
                (ap (option_map timeless) copied.there) refl (file_properties copied.source copied.file)) r n h;
            below = All-nil (Below (names s) (names d));
          })

      -- a file
      copied_file : (new : StoreState) (ls ms : Locks) (faults : List CopyFault) → Ran Asks (copy_file now s d) old ls (Ok faults) new ms → Copies (names top) (names s) (names d) old.world faults new.world
      copied_file new ls ms faults ran =
          let f = first {c = Copy (names s) (names d) now} {go = λ answer. gives (refused_at s answer)} ran in
          file_by f.mid new ls ms faults f.answer f.one f.more

  module _ (walk : CopyWalk) (good : Good top walk) (s d : PathText) (job : Job top s d) (off : is_at_or_under (names s) (names top) ≡ false) where
    seen_by : (x : List ℕ) (dx : Bool) (es : List (List ℕ × Bool)) → IsStorable (x ∷ [])
        → (mid new : StoreState) (ls ms : Locks) (faults : List CopyFault) (answer : Result DavMetaData FsError) → IsWorld mid.world
        → ((from to : StoreState) (ks ns : Locks) (is : List CopyFault) → IsWorld from.world → Ran Asks (copy_members walk s d es) from ks (Ok is) to ns → Members (names top) (names s) (names d) es from.world is to.world)
        → Ran Asks (copy_seen walk s d x (copy_members walk s d es) answer) mid ls (Ok faults) new ms → Members (names top) (names s) (names d) ((x, dx) ∷ es) mid.world faults new.world
    seen_by x dx es one mid new ls ms faults (Err e) world more ran =
        settle (Members (names top) (names s) (names d) ((x, dx) ∷ es) mid.world) ((s, e) ∷ []) faults mid new (gave ran) (record {
          grown = grown_same (names top) (names s) (names d) mid.world mid.world refl;
          world = world;
          has = λ y dir here r n h out. inl (by_source s e (y ∷ r) (names d ++ y ∷ r));
          below = below_source s e (names d);
        })
    seen_by x dx es one mid new ls ms faults (Ok m) world more ran =
        let from : names (child_of s x m.dir) ≡ names s ++ x ∷ [] = child_names s x m.dir job.source one in
        let to : names (child_of d x m.dir) ≡ names d ++ x ∷ [] = child_names d x m.dir job.place one in
        let a = parts (walk (child_of s x m.dir) (child_of d x m.dir)) (λ faults. copy_members walk s d es >>= (λ more. gives (faults ++ more))) ran in
        let b = parts (copy_members walk s d es) (λ more. gives (a.value ++ more)) a.more in
        let inside = good (child_of s x m.dir) (child_of d x m.dir) mid a.mid ls a.ks a.value (job_child top s d x m.dir job one) world
        (λ n there. outside_child top s x m.dir job.source one off) a.one in
        let others = more a.mid b.mid a.ks b.ks b.value inside.world b.one in
        settle (Members (names top) (names s) (names d) ((x, dx) ∷ es) mid.world) (a.value ++ b.value) faults b.mid new (gave b.more)
        (one_then (names top) (names s) (names d) x dx es mid.world a.mid.world b.mid.world a.value b.value
        (subst (λ (p : Path). Copies (names top) p (names d ++ x ∷ []) mid.world a.value a.mid.world) from
        (subst (λ (q : Path). Copies (names top) (names (child_of s x m.dir)) q mid.world a.value a.mid.world) to inside)) others job.under)

    -- the members
    copied_members : (entries : List (List ℕ × Bool)) → All (λ e. IsStorable (e.0 ∷ [])) entries → (old new : StoreState) (ls ms : Locks) (faults : List CopyFault) → IsWorld old.world
        → Ran Asks (copy_members walk s d entries) old ls (Ok faults) new ms → Members (names top) (names s) (names d) entries old.world faults new.world
    copied_members [] all old new ls ms faults world ran =
        settle (Members (names top) (names s) (names d) [] old.world) [] faults old new (gave ran) (record {
          grown = grown_same (names top) (names s) (names d) old.world old.world refl;
          world = world;
          has = λ x dir here. cc;
          below = All-nil (Below (names s) (names d));
        })
    copied_members (e ∷ es) all old new ls ms faults world ran =
        let f = first {c = EntryMetadata (names s ++ e.0 ∷ [])} {go = λ seen. copy_seen walk s d e.0 (copy_members walk s d es) seen} ran in
        let same = did_leave (EntryMetadata (names s ++ e.0 ∷ [])) old.world f.mid.world f.answer tt (did f.one) in
        let others = All-tail (λ e. IsStorable (e.0 ∷ [])) e es all in
        subst (λ (w : World). Members (names top) (names s) (names d) (e ∷ es) w faults new.world) same
        (seen_by e.0 e.1 es (All-head (λ e. IsStorable (e.0 ∷ [])) e es all) f.mid new ls ms faults f.answer (unmoved old.world f.mid.world world same)
        (λ from to ks ns is there run. copied_members es others from to ks ns is there run) f.more)

    -- what is listed, after the folder was made
    module _ (w : World) where
      listed_by : (old mid new : StoreState) (ls ms : Locks) (faults : List CopyFault) (answer : Result (List (List ℕ × Bool)) FsError) → IsWorld old.world → Grown (names top) (names s) (names d) w old.world
          → ((n : Node) → timeless_at w (names s) ≡ Some n → HasCopy w old.world (names d) n) → Asks (ReadDir (names s)) old answer mid → Ran Asks (copy_listed walk s d answer) mid ls (Ok faults) new ms → Copies (names top) (names s) (names d) w faults new.world
      listed_by old mid new ls ms faults (Err e) world made here one ran =
          let same = errors_leave_worlds (ReadDir (names s)) old e mid one in
          settle (Copies (names top) (names s) (names d) w) ((s, e) ∷ []) faults mid new (gave ran)
          (source_named (names top) s (names d) e w mid.world (subst (Grown (names top) (names s) (names d) w) (sym same) made) (unmoved old.world mid.world world same))
      listed_by old mid new ls ms faults (Ok entries) world made here one ran =
          let (members_are, same) = listed one in
          let inside = copied_members entries (asks_tell world one) mid new ls ms faults (unmoved old.world mid.world world same) ran in
          made_then (names top) (names s) (names d) w old.world new.world faults world made here
          (subst (λ (es : List (List ℕ × Bool)). Members (names top) (names s) (names d) es old.world faults new.world) members_are
          (subst (λ (v : World). Members (names top) (names s) (names d) entries v faults new.world) same inside))
          job.under

    module _ (old : StoreState) (world : IsWorld old.world) (source : Node) (was : node_at old.world (names s) ≡ Some source) (folder : is_folder_kind source.kind ≡ true) where
      made_by : (mid new : StoreState) (ls ms : Locks) (faults : List CopyFault) (answer : Result (Unit {0}) FsError) → Asks (CreateDir (names d) now) old answer mid
          → Ran Asks (copy_inside walk s d answer) mid ls (Ok faults) new ms → Copies (names top) (names s) (names d) old.world faults new.world
      made_by mid new ls ms faults (Err e) one ran =
          settle (Copies (names top) (names s) (names d) old.world) ((d, e) ∷ []) faults mid new (gave ran) (at_place s d old job world e mid (errors_leave_worlds (CreateDir (names d) now) old e mid one))
      made_by mid new ls ms faults (Ok u) one ran =
          let kept = asks_keep {c = CreateDir (names d) now} (job.storable, small) world one in
          let put = folder_did one in
          let kind : Folder ≡ source.kind = a_folder source.kind folder in
          let none : [] ≡ copied_properties (timeless source) = sym (ap (λ b. if b then [] else source.properties) folder) in
          let made = grown_put (names top) (names s) (names d) old.world mid.world Folder [] (timeless source) put kept.next (ap (option_map timeless) was) kind none off in
          let here = put_has (names s) (names d) old.world mid.world Folder [] (timeless source) put (ap (option_map timeless) was) kind none in
          let f = first {c = ReadDir (names s)} {go = λ answer. copy_listed walk s d answer} ran in
          listed_by old.world mid f.mid new ls ms faults f.answer kept.world made here f.one f.more

      -- a folder
      copied_folder : (new : StoreState) (ls ms : Locks) (faults : List CopyFault) → Ran Asks (copy_folder true walk now s d) old ls (Ok faults) new ms → Copies (names top) (names s) (names d) old.world faults new.world
      copied_folder new ls ms faults ran =
          let f = first {c = CreateDir (names d) now} {go = λ answer. copy_inside walk s d answer} ran in
          made_by f.mid new ls ms faults f.answer f.one f.more

  module _ (walk : CopyWalk) (good : Good top walk) (s d : PathText) (job : Job top s d) where
    kind_by : (old new : StoreState) (ls ms : Locks) (faults : List CopyFault) (dir : Bool) (source : Node) → is_at_or_under (names s) (names top) ≡ false → IsWorld old.world → node_at old.world (names s) ≡ Some source
        → dir ≡ is_folder_kind source.kind → Ran Asks (copy_kind true dir walk now s d) old ls (Ok faults) new ms → Copies (names top) (names s) (names d) old.world faults new.world
    kind_by old new ls ms faults true source off world was is ran = copied_folder walk good s d job off old world source was (sym is) new ls ms faults ran
    kind_by old new ls ms faults false source off world was is ran = copied_file s d old job world off new ls ms faults ran

    found_by : (old mid new : StoreState) (ls ms : Locks) (faults : List CopyFault) (answer : Result DavMetaData FsError) → ((n : Node) → node_at old.world (names s) ≡ Some n → is_at_or_under (names s) (names top) ≡ false)
        → IsWorld old.world → Asks (Metadata (names s)) old answer mid → Ran Asks (copy_looked true walk now s d answer) mid ls (Ok faults) new ms → Copies (names top) (names s) (names d) old.world faults new.world
    found_by old mid new ls ms faults (Err e) off world one ran =
        settle (Copies (names top) (names s) (names d) old.world) ((s, e) ∷ []) faults mid new (gave ran) (at_source s d old job world e mid (errors_leave_worlds (Metadata (names s)) old e mid one))
    found_by old mid new ls ms faults (Ok m) off world one ran =
        let found = found_did one in
        subst (λ (w : World). Copies (names top) (names s) (names d) w faults new.world) found.same
        (kind_by mid new ls ms faults m.dir found.node (off found.node found.there) (unmoved old.world mid.world world found.same) (ap (λ (w : World). node_at w (names s)) found.same ∙ found.there) found.dir ran)

    -- the test for the place, and what comes after it
    tested : (old new : StoreState) (ls ms : Locks) (faults : List CopyFault) (b : Bool) → IsPlain top → are_equal s top ≡ b → IsWorld old.world → Outside top s old.world
        → Ran Asks (if b then gives [] else Ask (Metadata (names s)) (λ found. copy_looked true walk now s d found)) old ls (Ok faults) new ms → Copies (names top) (names s) (names d) old.world faults new.world
    tested old new ls ms faults true plain is world outside ran =
        settle (Copies (names top) (names s) (names d) old.world) [] faults old new (gave ran) (record {
          grown = grown_same (names top) (names s) (names d) old.world old.world refl;
          world = world;
          has = λ r n h out. clash (is_at_or_under (names s ++ r) (names top)) out (ap (λ (p : Path). is_at_or_under (p ++ r) (names top)) (equal_names s top job.prefix job.source plain is) ∙ at_append (names top) r);
          below = All-nil (Below (names s) (names d));
        })
    tested old new ls ms faults false plain is world outside ran =
        let f = first {c = Metadata (names s)} {go = λ found. copy_looked true walk now s d found} ran in
        found_by old f.mid new ls ms faults f.answer off world f.one f.more
      where
        off_by : (b : Bool) → is_at_or_under (names s) (names top) ≡ b → (n : Node) → node_at old.world (names s) ≡ Some n → b ≡ false
        off_by false at n there = refl
        off_by true at n there = clash (are_equal s top) is (names_equal s top job.prefix job.source plain (outside n there at))

        off : (n : Node) → node_at old.world (names s) ≡ Some n → is_at_or_under (names s) (names top) ≡ false
        off n there = off_by (is_at_or_under (names s) (names top)) refl n there

  -- a walk copies, and reports what it doesn't copy
  copied_by : IsPlain top → (room : ℕ) → Good top (λ s d. copy room true now top s d)
  copied_by plain zero s d old new ls ms faults job world outside ran =
      settle (Copies (names top) (names s) (names d) old.world) ((s, fs.PathTooLong) ∷ []) faults old new (gave ran) (at_source s d old job world fs.PathTooLong old refl)
  copied_by plain (suc room) s d old new ls ms faults job world outside ran =
      tested (λ a b. copy room true now top a b) (λ a b. copied_by plain room a b) s d job old new ls ms faults (are_equal s top) plain refl world outside ran

-- ---- the law

module _ (s d : Path) (old new : World) (faults : List CopyFault) (did : Copies d s d old faults new) where
  elsewhere_by : (q : Path) (o : Option Node) → is_at_or_under q d ≡ false → timeless_at new q ≡ o → timeless_at new q ≡ timeless_at old q
  elsewhere_by q None out is = is ∙ sym (did.grown.kept q is)
  elsewhere_by q (Some m) out is = is ∙ sym (was_there d s d old new (at_itself d) did.grown q m out is)

  came_by : (rest : Path) (m : Node) → node_at new (d ++ rest) ≡ Some m → (timeless_at old (d ++ rest) ≡ Some (timeless m)) ⊎ IsCopyFrom old (s ++ rest) d m
  came_by rest m h = elim (did.grown.came (d ++ rest) (timeless m) (ap (option_map timeless) h)) as (λ _. (timeless_at old (d ++ rest) ≡ Some (timeless m)) ⊎ IsCopyFrom old (s ++ rest) d m) [
    | inl a ↦ inl a
    | inr (r, e, c) ↦
        let path : s ++ r ≡ s ++ rest = ap (λ (p : Path). s ++ p) (sym (append_cancel_left d rest r e)) in
        let (n, is, same) = there_by (node_at old (s ++ r)) c.source c.was in
        inr (
          n,
          ap (node_at old) (sym path) ∙ is,
          ap (λ z. is_at_or_under z d) (sym path) ∙ c.outside,
          record { kind = c.kind ∙ ap (λ (k : Node). k.kind) (sym same); properties = c.properties ∙ ap copied_properties (sym same); number = c.number },
        )
  ]

  copied_there : (rest : Path) (n : Node) → node_at old (s ++ rest) ≡ Some n → is_at_or_under (s ++ rest) d ≡ false
      → (is_below_fault faults (s ++ rest) || is_below_fault faults (d ++ rest)) ≡ false → (m : Node) × (node_at new (d ++ rest) ≡ Some m) × IsCopied old n m
  copied_there rest n h out silent = elim (did.has rest (timeless n) (ap (option_map timeless) h) out) as (λ _. (m : Node) × (node_at new (d ++ rest) ≡ Some m) × IsCopied old n m) [
    | inl told ↦ clash (is_below_fault faults (s ++ rest) || is_below_fault faults (d ++ rest)) silent told
    | inr c ↦
        let (m, is, same) = there_by (node_at new (d ++ rest)) c.copy c.there in
        (m, is, record { kind = ap (λ (k : Node). k.kind) same ∙ c.kind; properties = ap (λ (k : Node). k.properties) same ∙ c.properties; number = subst (λ (k : Node). old.next ≤ k.number) (sym same) c.number })
  ]

  leaves : LeavesCopies s d faults old new
  leaves = record {
    elsewhere = λ q out. elsewhere_by q (timeless_at new q) out refl;
    copied = copied_there;
    came = came_by;
    below = did.below;
  }

nothing_at : (w : World) (d r : Path) (n : Node) → IsWorld w → is_missing w d ≡ true → timeless_at w (d ++ r) ≡ Some n → ⊥
nothing_at w d r n world missing h =
    let (k, there, same) = there_by (node_at w (d ++ r)) n h in
    let (m, is) = above w.nodes world.tree d r k there in
    let some : is_missing w d ≡ false = ap is_none is in
    clash (is_missing w d) some missing

pub only_copies : (s d : Path) (faults : List CopyFault) (old new : World) → IsWorld old → is_missing old d ≡ true → LeavesCopies s d faults old new → OnlyCopies s d old new
only_copies s d faults old new world missing left rest m h = elim (left.came rest m h) as (λ _. IsCopyFrom old (s ++ rest) d m) [
  | inl a ↦ absurd (nothing_at old d rest (timeless m) world missing a)
  | inr c ↦ c
]

pub copies_leave_copies : CopiesLeaveCopies
copies_leave_copies now s d old new ls ms faults world small prefix plain place storable off ran =
    let job : Job d s d = record { prefix = prefix; source = plain; place = place; storable = storable; under = at_itself (names d) } in
    let left = leaves (names s) (names d) old.world new.world faults
    (copied_by d now small place (room_at s) s d old new ls ms faults job world (λ n there at. clash (is_at_or_under (names s) (names d)) off at) ran) in (
      left,
      only_list (only_copy (room_at s) true now d s d) ran,
      λ missing. only_copies (names s) (names d) faults old.world new.world world missing left,
    )
