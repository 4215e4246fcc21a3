-- How the logic stores a listing that is taken response by response.
use Rattle.std.specs.Prelude.{ℕ, Bool, List, Option, refl}
use Rattle.std.specs.Coded.{Coded, code_by, coded_ℕ, coded_bool, coded_list, coded_option, coded×}
use Rattle.dav_core.specs.Element.{ElementTree}
use Rattle.dav_core.specs.ElementCode.{coded_tree}
use Rattle.dav_presented.specs.declared.quota.Room.{Room}
use Rattle.dav_http.specs.Listing.{Listed}

-- How the logic stores a room.
abbrev pub coded_room : Coded Room
coded_room = code_by (ℕ × ℕ) (coded× coded_ℕ coded_ℕ) (λ r. (r.used, r.available)) (λ p. record { used = p.0; available = p.1 }) (λ _. refl)

-- How the logic stores a listing.
abbrev pub coded_listed : Coded Listed
coded_listed =
    code_by (Bool × (Room × (Option ElementTree × (Option ElementTree × List ℕ))))
    (coded× coded_bool (coded× coded_room (coded× (coded_option coded_tree) (coded× (coded_option coded_tree) (coded_list coded_ℕ)))))
    (λ l. (l.leaves_out, (l.room, (l.asked, (l.root, l.text)))))
    (λ p. record { leaves_out = p.0; room = p.1.0; asked = p.1.1.0; root = p.1.1.1.0; text = p.1.1.1.1 }) (λ _. refl)
