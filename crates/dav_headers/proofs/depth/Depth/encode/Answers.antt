use Rattle.std.proofs.Common.{refl, sym, ap}
use Rattle.dav_headers.specs.Depth.{depth_text}
use Rattle.dav_headers.specs.declared.depth.Depth.TheVariants.{Zero, One, Infinity}
use Rattle.dav_headers.proofs.TextLemmas.{depth_written, depth_not_invalid, zero_is_given, one_is_given, infinity_is_given}
use Rattle.dav_headers.proofs.depth.Depth.encode.Goals as goal

pub returns-in-Zero-clause-ok : goal.returns-in-Zero-clause-ok
returns-in-Zero-clause-ok c = depth_written c.args.self.now c.written.result _ (sym (ap depth_text c.in-Zero.is)) c.written.ensures

pub returns-in-Zero-clause-invalid : goal.returns-in-Zero-clause-invalid
returns-in-Zero-clause-invalid c = depth_not_invalid c.args.self.now Zero c.written.result _ c.in-Zero.is zero_is_given refl c.written.ensures

pub returns-in-One-clause-ok : goal.returns-in-One-clause-ok
returns-in-One-clause-ok c = depth_written c.args.self.now c.written-in-One.result _ (sym (ap depth_text c.in-One.is)) c.written-in-One.ensures

pub returns-in-One-clause-invalid : goal.returns-in-One-clause-invalid
returns-in-One-clause-invalid c = depth_not_invalid c.args.self.now One c.written-in-One.result _ c.in-One.is one_is_given refl c.written-in-One.ensures

pub returns-in-Infinity-clause-ok : goal.returns-in-Infinity-clause-ok
returns-in-Infinity-clause-ok c = depth_written c.args.self.now c.written-in-Infinity.result _ (sym (ap depth_text c.in-Infinity.is)) c.written-in-Infinity.ensures

pub returns-in-Infinity-clause-invalid : goal.returns-in-Infinity-clause-invalid
returns-in-Infinity-clause-invalid c = depth_not_invalid c.args.self.now Infinity c.written-in-Infinity.result _ c.in-Infinity.is infinity_is_given refl c.written-in-Infinity.ensures
