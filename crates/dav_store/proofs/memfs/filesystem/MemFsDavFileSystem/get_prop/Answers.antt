use Rattle.std.proofs.Common.{arith}
use Rattle.std.proofs.lemmas.Grind.{common_steps}
use Rattle.dav_core.specs.Path.{names}
use Rattle.dav_core.specs.Property.{property_key}
use Rattle.dav_store.proofs.AskingLemmas.{asks_get_prop}
use Rattle.dav_store.proofs.memfs.filesystem.MemFsDavFileSystem.get_prop.Goals as goal

pub returns-in_default : goal.returns-in_default
returns-in_default c = asks_get_prop (names c.args.path.now) (property_key c.args.property.now) c.args.self.now _ _ (grind (arith, common_steps))

pub returns-in_default-get : goal.returns-in_default-get
returns-in_default-get c = asks_get_prop (names c.args.path.now) (property_key c.args.property.now) c.args.self.now _ _ (grind (arith, common_steps))

pub returns-in_default-stored : goal.returns-in_default-stored
returns-in_default-stored c = asks_get_prop (names c.args.path.now) (property_key c.args.property.now) c.args.self.now _ _ (grind (arith, common_steps))

pub returns-in_default-clone : goal.returns-in_default-clone
returns-in_default-clone c = asks_get_prop (names c.args.path.now) (property_key c.args.property.now) c.args.self.now _ _ (grind (arith, common_steps))

pub returns : goal.returns
returns c = asks_get_prop (names c.args.path.now) (property_key c.args.property.now) c.args.self.now _ _ (grind (arith, common_steps))
