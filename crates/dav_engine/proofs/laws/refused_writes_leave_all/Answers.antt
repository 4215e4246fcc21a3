use Rattle.dav_engine.proofs.PutWorld.{refused_put_leaves_all, refused_mkcol_leaves_all}
use Rattle.dav_engine.proofs.laws.refused_writes_leave_all.Goals as goal

pub returns : goal.returns
returns c = record { put = refused_put_leaves_all; mkcol = refused_mkcol_leaves_all }
