-- What the calls ensure that save and load a server.
use Rattle.std.proofs.Common.{◌≡◌, ℕ, Bool, false, List, [], ◌∷◌, Option, Some, None, Result, Ok, Err, refl, sym, ap, subst, ◌∙◌}
use Rattle.std.specs.Prelude.{IfSome}
use Rattle.std.specs.Bool.{Decides}
use Rattle.std.specs.List.{AllByRecursion}
use Rattle.dav_core.specs.Asking.{StoreState}
use Rattle.dav_core.specs.Element.{ElementTree}
use Rattle.dav_core.specs.ElementEq.{tree_eq, tree_eq-Decides}
use Rattle.dav_core.specs.Locks.{Lock}
use Rattle.dav_core.specs.Path.{Path}
use Rattle.dav_core.specs.Property.{PropertyKey}
use Rattle.dav_core.specs.World.{World, Node, Nodes, IsWorld}
use Rattle.dav_saved.specs.declared.errors.LoadError.{LoadError}
use Rattle.dav_saved.specs.declared.errors.LoadError.TheVariants.{Memory, NotSaved}
use Rattle.dav_saved.specs.Locks.{AreSaveableLocks}
use Rattle.dav_saved.specs.Parts.{IsWithin}
use Rattle.dav_saved.specs.Reading.{Fails}
use Rattle.dav_saved.specs.Worlds.{AreWithin, IsSaveableWorld}
use Rattle.dav_server.specs.Server.{Server}
use Rattle.dav_store.specs.Passing.{ElementsPass, PropertiesPass}
use Rattle.dav_xml.specs.declared.error.Fault.{Fault}
use Rattle.dav_xml.specs.declared.error.XmlError.{XmlError}
use Rattle.dav_xml.specs.declared.error.XmlError.TheVariants as errors
use Rattle.dav_xml.specs.Read as xml
use Rattle.dav_xml.specs.Namespaces.{document}
use Rattle.dav_xml.specs.Written.{document_of}
use Rattle.dav_xml.proofs.SentTrees.{read_is_sendable}
use Rattle.dav_http.specs.Saved.{AreKeepable, IsKeepable, IsKeepableLock, IsSaveable, most_levels}
use Rattle.dav_http.specs.Sent.{IsSendableIfAny, IsSendableLock}
use Rattle.dav_http.specs.SentLaws.{IsSendableServer}

ok_is : {A E : Type 0} (x y : A) → ◌≡◌ {A = Result A E} (Ok x) (Ok y) → x ≡ y
ok_is x y e = cc

pub read_decides : (r : Bool) (t u : ElementTree) (bytes : List ℕ) → r ≡ tree_eq u t → document bytes ≡ Ok u → bytes ≡ document_of t → Decides r (document (document_of t) ≡ Ok t)
read_decides r t u bytes e read is = (
  λ yes. ap document (sym is) ∙ read ∙ ap Ok ((tree_eq-Decides u t).0 (sym e ∙ yes)),
  λ h. e ∙ (tree_eq-Decides u t).1 (ok_is u t (sym read ∙ ap document is ∙ h)),
)

pub unread_decides : (e : XmlError) (f : Fault) (t : ElementTree) (bytes : List ℕ) → e ≡ errors.Fault f → xml.Fails e (document bytes) → bytes ≡ document_of t → Decides false (document (document_of t) ≡ Ok t)
unread_decides e f t bytes same read is =
    let fault : document bytes ≡ Err f = subst (λ (x : XmlError). xml.Fails x (document bytes)) same read in
    (λ no. cc, λ h. let clash : ◌≡◌ {A = Result ElementTree Fault} (Err f) (Ok t) = sym fault ∙ ap document is ∙ h in cc)

pub fails_memory : {Y : Type 0} (e : LoadError) (y : Y) → Fails e (Some y) → e ≡ Memory
fails_memory Memory y h = refl
fails_memory NotSaved y h = cc

-- ---- what can be saved

all_weaker : {A : Type 0} (P Q : A → Type 0) → ((x : A) → P x → Q x) → (xs : List A) → AllByRecursion P xs → AllByRecursion Q xs
all_weaker P Q f [] h = tt
all_weaker P Q f (x ∷ xs) h = (f x h.0, all_weaker P Q f xs h.1)

value_within : (v : Option ElementTree) → IfSome v IsKeepable → IsWithin most_levels v
value_within None h = tt
value_within (Some t) h = h.0

pub elements_within : (ns : Nodes) → ElementsPass IsKeepable ns → AllByRecursion (λ e. AreWithin most_levels e.1.properties) ns
elements_within ns h =
    all_weaker (λ (e : Path × Node). PropertiesPass IsKeepable e.1.properties) (λ (e : Path × Node). AreWithin most_levels e.1.properties)
    (λ e ps. all_weaker (λ (p : PropertyKey × Option ElementTree). IfSome p.1 IsKeepable) (λ (p : PropertyKey × Option ElementTree). IsWithin most_levels p.1) (λ p v. value_within p.1 v) e.1.properties ps) ns h

pub owners_within : (ls : List Lock) → AllByRecursion IsKeepableLock ls → AllByRecursion (λ l. IsWithin most_levels l.owner) ls
owners_within ls h = all_weaker IsKeepableLock (λ (l : Lock). IsWithin most_levels l.owner) (λ l k. value_within l.owner k.owner) ls h

pub saveable : (w : World) (ls : List Lock) (s : Server) → s.state.store.refusals ≡ [] → s.state.store.short ≡ false → w ≡ s.state.store.world → s.state.locks ≡ Some ls → IsWorld s.state.store.world → AreKeepable w ls
    → IsSaveableWorld most_levels w → AreSaveableLocks most_levels ls → IsSaveable s
saveable w ls s unrefused ample same listed is keepable fits locks = record {
  list = ls;
  is_list = listed;
  unrefused = unrefused;
  ample = ample;
  is_world = is;
  keepable = subst (λ (v : World). AreKeepable v ls) same keepable;
  world = subst (IsSaveableWorld most_levels) same fits;
  locks = locks;
}

-- ---- what may be sent

value_sent : (v : Option ElementTree) → IfSome v IsKeepable → IsSendableIfAny v
value_sent None h = tt
value_sent (Some t) h = read_is_sendable (document_of t) t h.1

pub sendable_loaded : (store : StoreState) (ls : List Lock) → IsWorld store.world → AreKeepable store.world ls → IsSendableServer (record { store = store; locks = Some ls })
sendable_loaded store ls is keepable = record {
  world = is;
  state = record {
    keeps = all_weaker (λ (e : Path × Node). PropertiesPass IsKeepable e.1.properties) (λ (e : Path × Node). AllByRecursion (λ property. IsSendableIfAny property.1) e.1.properties)
        (λ e ps. all_weaker (λ (p : PropertyKey × Option ElementTree). IfSome p.1 IsKeepable) (λ (p : PropertyKey × Option ElementTree). IsSendableIfAny p.1) (λ p v. value_sent p.1 v) e.1.properties ps)
        store.world.nodes keepable.elements;
    holds = all_weaker IsKeepableLock IsSendableLock (λ l k. record { token = k.token; path = k.path; owner = value_sent l.owner k.owner }) ls keepable.locks;
  };
}
