-- The text of a path leads back to it, and so do the hrefs of responses.
use Rattle.std.proofs.Common.{◌≡◌, ◌≢◌, ℕ, ◌<◌, ◌-◌, ◌++◌, Bool, true, false, List, [], ◌∷◌, All, length, map, codes, inl, inr, refl, sym, ap, subst, ◌∙◌, append-nil, append_assoc, arith}
use Rattle.std.proofs.lemmas.Grind.{flat_map-append}
use Rattle.std.proofs.lemmas.List.{drop_at, length_push}
use Rattle.std.proofs.lemmas.List.Elements.{All-head, All-tail, All-append}
use Rattle.std.specs.List.{filter}
use Rattle.dav_core.specs.CallLaws.{IsStorable}
use Rattle.dav_core.specs.Element.{ElementTree, tree_list, trees, is_named}
use Rattle.dav_core.specs.Path.{Path, PathText, IsName, joined, path_bytes, star, names, names_of, full_bytes, is_collection, with_slash, end_for, with_bytes, without_slash, IsCut, at_slash}
use Rattle.dav_core.specs.Target.{Reads}
use Rattle.dav_core.specs.UrlText.{path_text, url_text}
use Rattle.dav_core.proofs.Theorems.{Leaves-names, Reads-bytes, names_kept, names_again, cut_keeps_names}
use Rattle.dav_engine.specs.AnswerParts.{children_named}
use Rattle.dav_engine.specs.Folder.{closed, child_of}
use Rattle.dav_engine.specs.Multistatus.{PathStatus, href, response_for, multistatus_reply}
use Rattle.dav_engine.specs.Properties.{Group, propstat, property_response}
use Rattle.dav_engine.specs.PropfindLaws.{responses_in}
use Rattle.dav_engine.proofs.Theorems.{bare, open_names}
use Rattle.dav_server.specs.HrefLaws.{IsServedPath, TargetsAreServed, TextsLeadBack, TellsOf, TellOf, none_told, one_told, StatusesLeadBack, PropertiesLeadBack}
use Rattle.dav_server.specs.Setup.{IsPrefix}
use Rattle.dav_server.specs.Target.{BeginsWithSlash, server, path}
use Rattle.dav_server.proofs.MeansWorld.{all_back, storable_root}
use Rattle.dav_server.proofs.PathLemmas.{slash_no_star, cut_prefix}
use Rattle.dav_server.proofs.TargetLemmas.{text_no_star, path_no_star}

-- ---- which paths are served

-- a path with these bytes after the prefix
pub served_by : (prefix : List ℕ) (p : PathText) (ns : Path) (c : Bool) → p.prefix ≡ without_slash prefix → IsStorable ns → p.bytes ≡ path_bytes ns c → IsServedPath prefix p
served_by prefix p ns c front storable is =
    let same : names p ≡ ns = ap names_of is ∙ names_kept ns c storable.0 in
    record { front = front; storable = subst IsStorable (sym same) storable; is_closed = c; bytes_are = is ∙ ap (λ (ms : Path). path_bytes ms c) (sym same) }

-- what is left of names behind a prefix
named_served : (prefix : List ℕ) (ns : Path) (c : Bool) (p : PathText) → IsStorable ns → IsCut (without_slash prefix) (path_bytes ns c) p → IsServedPath prefix p
named_served prefix ns c p storable cut =
    let (rest, end, split, behind) = cut_keeps_names ns c (without_slash prefix) p storable.0 cut in
    let kept : All IsName rest = all_back IsName (names_of (without_slash prefix)) rest (subst (All IsName) split storable.0) in
    let below : All (All (λ b. b < 256)) rest = all_back (All (λ b. b < 256)) (names_of (without_slash prefix)) rest (subst (All (All (λ b. b < 256))) split storable.1) in
    served_by prefix p rest end (cut_prefix cut) (kept, below) behind

-- what is read and cut after the prefix
pub read_served : (prefix text bytes : List ℕ) (p : PathText) → text ≢ star → Reads text bytes → IsCut (without_slash prefix) bytes p → IsServedPath prefix p
read_served prefix text bytes p other (inl (is, same)) cut = absurd (other is)
read_served prefix text bytes p other (inr (ns, c, named, is)) cut =
    let are : All IsName ns = Leaves-names _ ns named.leaves in
    let small : All (All (λ b. b < 256)) ns = subst (All (All (λ b. b < 256))) (ap names_of is ∙ names_kept ns c are) (Reads-bytes text bytes (inr (ns, c, named, is))) in
    named_served prefix ns c p (are, small) (subst (λ (b : List ℕ). IsCut (without_slash prefix) b p) is cut)

pub targets_are_served : TargetsAreServed
targets_are_served prefix target m p other (server is options) = absurd (other is)
targets_are_served prefix target m p other (path {text} {bytes} has reads cut) = read_served prefix text bytes p (text_no_star target text has) reads cut

-- ---- the text of such a path

-- the prefix as names
record Front (prefix : List ℕ) : Type 0 where
  path : Path
  storable : IsStorable path
  is : without_slash prefix ≡ joined path

front_of : (prefix : List ℕ) → IsPrefix prefix → Front prefix
front_of prefix (inl empty) = record { path = []; storable = storable_root; is = ap without_slash empty }
front_of prefix (inr (slash, inl (is, same))) = absurd (slash_no_star prefix slash is)
front_of prefix (inr (slash, inr (ns, closed, named, is))) =
    let are : All IsName ns = Leaves-names _ ns named.leaves in
    record {
      path = ns;
      storable = (are, subst (All (All (λ b. b < 256))) (ap names_of is ∙ names_kept ns closed are) (Reads-bytes prefix prefix (inr (ns, closed, named, is))));
      is = ap without_slash is ∙ bare ns closed are;
    }

joined_more : (ps ns : Path) → joined (ps ++ ns) ≡ joined ps ++ joined ns
joined_more ps ns = flat_map-append (λ (n : List ℕ). 47 ∷ n) ps ns

-- joined names, and a path behind them, are a path
whole_of : (ps ns : Path) (c : Bool) → (end : Bool) × (joined ps ++ path_bytes ns c ≡ path_bytes (ps ++ ns) end)
whole_of [] ns c = (c, refl)
whole_of (p ∷ ps) [] c = (true, ap (λ (x : Path). joined (p ∷ x) ++ 47 ∷ []) (sym (append-nil ps)))
whole_of (p ∷ ps) (n ∷ ns) true = (true, sym (append_assoc (joined (p ∷ ps)) (joined (n ∷ ns)) (47 ∷ [])) ∙ ap (λ xs. xs ++ 47 ∷ []) (sym (joined_more (p ∷ ps) (n ∷ ns))))
whole_of (p ∷ ps) (n ∷ ns) false = (false, sym (append_assoc (joined (p ∷ ps)) (joined (n ∷ ns)) []) ∙ ap (λ xs. xs ++ []) (sym (joined_more (p ∷ ps) (n ∷ ns))))

begins : (ns : Path) (c : Bool) → (rest : List ℕ) × (path_bytes ns c ≡ 47 ∷ rest)
begins [] c = ([], refl)
begins (n ∷ ns) true = ((n ++ joined ns) ++ 47 ∷ [], refl)
begins (n ∷ ns) false = ((n ++ joined ns) ++ [], refl)

text_of_names : (ns : Path) (c : Bool) → path_text (path_bytes ns c) ≡ url_text (path_bytes ns c)
text_of_names [] c = refl
text_of_names (n ∷ ns) true = refl
text_of_names (n ∷ ns) false = refl

-- a text that is read as another path than the star path begins with a slash
pub rooted : (text bytes : List ℕ) → bytes ≢ star → Reads text bytes → BeginsWithSlash text
rooted text bytes other (inl (is, same)) = absurd (other same)
rooted text bytes other (inr (ns, c, named, is)) = named.rooted.rooted

pub texts_lead_back : TextsLeadBack
texts_lead_back prefix p fits served m =
    let front = front_of prefix fits in
    let ns : Path = front.path ++ names p in
    let (end, whole) = whole_of front.path (names p) served.is_closed in
    let (rest, slash) = begins (names p) served.is_closed in
    let full : full_bytes p ≡ path_bytes ns end = (λ i. served.front i ++ served.bytes_are i) ∙ ap (λ xs. xs ++ path_bytes (names p) served.is_closed) front.is ∙ whole in
    let written : path_text (full_bytes p) ≡ url_text (path_bytes ns end) = ap path_text full ∙ text_of_names ns end in
    let again : Reads (url_text (path_bytes ns end)) (path_bytes ns end) =
    names_again ns end (All-append IsName front.path (names p) front.storable.0 served.storable.0) (All-append (All (λ b. b < 256)) front.path (names p) front.storable.1 served.storable.1) in
    let reads : Reads (path_text (full_bytes p)) (path_bytes ns end) = subst (λ (t : List ℕ). Reads t (path_bytes ns end)) (sym written) again in
    path (inl (rooted (path_text (full_bytes p)) (path_bytes ns end) (path_no_star ns end) reads, refl)) reads
    (at_slash {rest = rest} (sym whole ∙ (λ i. sym front.is i ++ slash i)) (λ i. record { prefix = served.front i; bytes = (served.bytes_are ∙ slash) i }))

-- ---- members of served paths, and served paths with a slash at the end

closed_at : (xs : List ℕ) → is_collection (xs ++ 47 ∷ []) ≡ true
closed_at xs =
    let at = drop_at xs (47 ∷ []) (length (xs ++ 47 ∷ []) - 1) (omega (arith, length_push xs 47)) in
    rw at refl

slash_added : (ns : Path) (c : Bool) → All IsName ns → with_slash (path_bytes ns c) ≡ path_bytes ns true
slash_added [] c all = refl
slash_added (n ∷ ns) true all = rw (closed_at (joined (n ∷ ns))) (append-nil (joined (n ∷ ns) ++ 47 ∷ []))
slash_added (n ∷ ns) false all = ap with_slash (append-nil (joined (n ∷ ns))) ∙ ap (λ b. joined (n ∷ ns) ++ end_for b) (open_names [] n ns all)

joined_last : (ns : Path) (n : List ℕ) → joined (ns ++ n ∷ []) ≡ joined ns ++ 47 ∷ n
joined_last [] n = append-nil (47 ∷ n)
joined_last (m ∷ ns) n = ap (λ xs. 47 ∷ (m ++ xs)) (joined_last ns n) ∙ sym (append_assoc (47 ∷ m) (joined ns) (47 ∷ n))

name_added : (ns : Path) (c : Bool) (n : List ℕ) → All IsName ns → with_slash (path_bytes ns c) ++ n ≡ path_bytes (ns ++ n ∷ []) false
name_added [] c n all = sym (append-nil (47 ∷ (n ++ [])) ∙ ap (λ xs. 47 ∷ xs) (append-nil n))
name_added (m ∷ ns) c n all =
    ap (λ xs. xs ++ n) (slash_added (m ∷ ns) c all)
    ∙ append_assoc (joined (m ∷ ns)) (47 ∷ []) n
    ∙ sym (joined_last (m ∷ ns) n)
    ∙ sym (append-nil (joined ((m ∷ ns) ++ n ∷ [])))

-- a served path at another one or below it
pub record Reached (prefix : List ℕ) (top : Path) (q : PathText) : Type 0 where
  pub served : IsServedPath prefix q
  pub rest : Path
  pub at : names q ≡ top ++ rest

reached_by : (prefix : List ℕ) (top : Path) (q : PathText) (rest : Path) (c : Bool) → q.prefix ≡ without_slash prefix → IsStorable (top ++ rest) → q.bytes ≡ path_bytes (top ++ rest) c → Reached prefix top q
reached_by prefix top q rest c front storable is =
    record { served = served_by prefix q (top ++ rest) c front storable is; rest = rest; at = ap names_of is ∙ names_kept (top ++ rest) c storable.0 }

module _ (prefix : List ℕ) (top : Path) where
  pub reached_closed : (wanted : Bool) (q : PathText) → Reached prefix top q → Reached prefix top (closed wanted q)
  reached_closed false q at = at
  reached_closed true q at =
      reached_by prefix top (closed true q) at.rest true at.served.front (subst IsStorable at.at at.served.storable)
      (ap with_slash at.served.bytes_are ∙ slash_added (names q) at.served.is_closed at.served.storable.0 ∙ ap (λ (ns : Path). path_bytes ns true) at.at)

  longer : (q : PathText) (name : List ℕ) (at : Reached prefix top q) → names q ++ name ∷ [] ≡ top ++ (at.rest ++ name ∷ [])
  longer q name at = ap (λ (ns : Path). ns ++ name ∷ []) at.at ∙ append_assoc top at.rest (name ∷ [])

  pub reached_child : (q : PathText) (name : List ℕ) (dir : Bool) → IsStorable (name ∷ []) → Reached prefix top q → Reached prefix top (child_of q name dir)
  reached_child q name dir one at =
      let all : IsStorable (names q ++ name ∷ []) = (All-append IsName (names q) (name ∷ []) at.served.storable.0 one.0, All-append (All (λ b. b < 256)) (names q) (name ∷ []) at.served.storable.1 one.1) in
      reached_closed dir (with_bytes q (with_slash q.bytes ++ name))
      (reached_by prefix top (with_bytes q (with_slash q.bytes ++ name)) (at.rest ++ name ∷ []) false at.served.front (subst IsStorable (longer q name at) all)
      (ap (λ bytes. with_slash bytes ++ name) at.served.bytes_are ∙ name_added (names q) at.served.is_closed name at.served.storable.0 ∙ ap (λ (ns : Path). path_bytes ns false) (longer q name at)))

-- ---- responses

list_of_trees : (ts : List ElementTree) → tree_list (trees ts) ≡ ts
list_of_trees [] = refl
list_of_trees (t ∷ ts) = ap (λ us. t ∷ us) (list_of_trees ts)

all_responses : (items : List PathStatus) → filter (is_named (codes "response")) (map response_for items) ≡ map response_for items
all_responses [] = refl
all_responses (item ∷ items) = ap (λ rs. response_for item ∷ rs) (all_responses items)

-- the responses of a reply with statuses
pub responses_are : (items : List PathStatus) → responses_in (multistatus_reply items).body ≡ map response_for items
responses_are items = ap (filter (is_named (codes "response"))) (list_of_trees (map response_for items)) ∙ all_responses items

pub status_tells : (prefix : List ℕ) (item : PathStatus) → IsPrefix prefix → IsServedPath prefix item.0 → TellsOf prefix item.0 (response_for item)
status_tells prefix item fits served = record { text = path_text (full_bytes item.0); hrefs = refl; leads = texts_lead_back prefix item.0 fits served }

abbrev Serves : List ℕ → PathStatus → Type 0
Serves prefix item = IsServedPath prefix item.0

all_tell : (prefix : List ℕ) (items : List PathStatus) → IsPrefix prefix → All (Serves prefix) items → TellOf prefix (map (λ i. i.0) items) (map response_for items)
all_tell prefix [] fits are = none_told
all_tell prefix (item ∷ items) fits are =
    one_told (status_tells prefix item fits (All-head (Serves prefix) item items are)) (all_tell prefix items fits (All-tail (Serves prefix) item items are))

pub statuses_lead_back : StatusesLeadBack
statuses_lead_back prefix items fits are = subst (TellOf prefix (map (λ (i : PathStatus). i.0) items)) (sym (responses_are items)) (all_tell prefix items fits are)

-- groups of properties hold no href of the response
no_more_hrefs : (groups : List Group) → filter (is_named (codes "href")) (map propstat groups) ≡ []
no_more_hrefs [] = refl
no_more_hrefs (g ∷ groups) = no_more_hrefs groups

one_href : (p : PathText) (groups : List Group) → children_named (codes "href") (property_response p groups) ≡ href p ∷ []
one_href p groups = ap (λ ts. filter (is_named (codes "href")) (href p ∷ ts)) (list_of_trees (map propstat groups)) ∙ ap (λ ts. href p ∷ ts) (no_more_hrefs groups)

pub properties_lead_back : PropertiesLeadBack
properties_lead_back prefix p groups fits served = record { text = path_text (full_bytes p); hrefs = one_href p groups; leads = texts_lead_back prefix p fits served }
