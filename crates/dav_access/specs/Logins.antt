-- Which logins were wrong, and which right, and how long the next one waits before its password is
-- checked (RFC 6585, section 4).
use Rattle.std.specs.Prelude.{◌≡◌, ◌≤◌, ◌&&◌, ◌||◌, ◌==◌, not, ℕ, ◌-◌, nat_lt, All, Bool, List, [], ◌∷◌, ◌++◌, bytes_eq, count_by, length, take, if◌then◌else◌}
use Rattle.std.specs.List.{filter, flat_map, list_any}
use Rattle.sha2.specs.Sha256.{sha256}
use Rattle.dav_access.specs.declared.logins.WrongLogin.{WrongLogin}

-- what digests are salted with, where the next login comes from, the logins that were wrong, and the
-- digests of those that were right
pub record LoginsView : Type 0 where
  pub salt : List ℕ
  pub address : List ℕ
  pub wrong : List WrongLogin
  pub right : List (List ℕ)

-- none was tried
abbrev pub no_logins : LoginsView
no_logins = record { salt = []; address = []; wrong = []; right = [] }

-- the digest of a login: of a salt, and its text in Basic credentials (RFC 7617, section 2)
abbrev pub login_digest : List ℕ → List ℕ → List ℕ → List ℕ
login_digest salt name password = sha256 (salt ++ (name ++ 58 ∷ password))

-- a login with this name and password, by its digest
abbrev pub digest_of : LoginsView → List ℕ → List ℕ → List ℕ
digest_of l name password = login_digest l.salt name password

-- a login with this digest was right when it was tried last
abbrev pub is_right : List ℕ → LoginsView → Bool
is_right digest l = list_any (λ d. bytes_eq d digest) l.right

-- a wrong login is of the last minute
abbrev pub is_recent : ℕ → WrongLogin → Bool
is_recent now w = nat_lt (now - w.seconds) 60

-- it is, and it came from this address; it is, came from there, and was of this name
abbrev pub is_from : ℕ → List ℕ → WrongLogin → Bool
is_from now address w = is_recent now w && bytes_eq w.address (sha256 address)

abbrev pub is_of : ℕ → List ℕ → List ℕ → WrongLogin → Bool
is_of now address name w = is_from now address w && bytes_eq w.name (sha256 name)

-- of the last minute are five wrong logins of this name from where the next one comes from, or twenty
-- of any name from there; so what others do elsewhere makes nobody wait
abbrev pub are_many : LoginsView → List ℕ → ℕ → Bool
are_many l name now =
    nat_lt 4 (count_by (is_of now l.address name) l.wrong)
    || nat_lt 19 (count_by (is_from now l.address) l.wrong)

-- of the last minute is a wrong login from where the next one comes from
abbrev pub has_erred : LoginsView → ℕ → Bool
has_erred l now = nat_lt 0 (count_by (is_from now l.address) l.wrong)

-- of this second are eight wrong logins, or sixteen for who comes from where none was wrong
abbrev pub is_full : LoginsView → ℕ → Bool
is_full l now = nat_lt (if has_erred l now then 7 else 15) (count_by (λ w. w.seconds == now) l.wrong)

-- For so many seconds a login waits before its password is checked: not at all where it was right
-- when it was tried last; a minute after many wrong ones; a second where this one is full; and else
-- not at all.
abbrev pub wait_of : LoginsView → List ℕ → List ℕ → ℕ → ℕ
wait_of l name password now =
    if is_right (digest_of l name password) l then 0
    else if are_many l name now then 60 else if is_full l now then 1 else 0

-- a wrong login of this name, at this time
abbrev pub wrong_login : LoginsView → List ℕ → ℕ → WrongLogin
wrong_login l name now = record { name = sha256 name; address = sha256 l.address; seconds = now }

-- after a wrong login: those of the last minute and this one, of which the first 1,024 are known; and
-- it isn't right any more
abbrev pub after_wrong : LoginsView → List ℕ → List ℕ → ℕ → LoginsView
after_wrong l name password now = record l {
  wrong = take 1024 (filter (is_recent now) l.wrong ++ wrong_login l name now ∷ []);
  right = filter (λ d. not (bytes_eq d (digest_of l name password))) l.right;
}

-- after a right login: of those that were right the last 1,024 are known
abbrev pub after_right : LoginsView → List ℕ → List ℕ → LoginsView
after_right l name password =
    if is_right (digest_of l name password) l then l
    else record l { right = take 1024 (digest_of l name password ∷ l.right) }

-- what is kept of logins over a restart: the salt, and the digests of those that were right
abbrev pub known_bytes : LoginsView → List ℕ
known_bytes l = l.salt ++ flat_map (λ d. d) l.right

-- These bytes were kept of such logins: of a salt of 16 bytes and of digests of 32, 1,024 at most. Of
-- what was wrong nothing is known.
pub record IsRecalled (bytes : List ℕ) (l : LoginsView) : Type 0 where
  pub salt : length l.salt ≡ 16
  pub digests : All (λ d. length d ≡ 32) l.right
  pub few : length l.right ≤ 1024
  pub kept : known_bytes l ≡ bytes
  pub wrong : l.wrong ≡ []
  pub address : l.address ≡ []
