-- What is found is one of those that are there.
use Rattle.std.proofs.Common.{◌≡◌, ℕ, List, find, Some, sym}
use Rattle.std.specs.List.{AllByRecursion}
use Rattle.px_types.specs.declared.ids.ConnId.{ConnId}
use Rattle.px_scache.specs.declared.upload.Upload.{Upload}
use Rattle.px_scache.specs.declared.sample.Sample.{Sample}
use Rattle.px_scache.specs.Uploads.{is_upload, IsUpload}
use Rattle.px_scache.specs.Cache.{Cache, is_called, IsSample, IsCache}
use Rattle.px_scache.proofs.Kept.{found}

pub upload_is : (conn : ConnId) (stream : ℕ) (list : List Upload) (u : Upload) → AllByRecursion IsUpload list → Some u ≡ find (is_upload conn stream) list → IsUpload u
upload_is conn stream list u all e = found IsUpload (is_upload conn stream) list u all (sym e)

pub sample_is : (name : List ℕ) (cache : Cache) (s : Sample) → IsCache cache → Some s ≡ find (is_called name) cache → IsSample s
sample_is name cache s is e = found IsSample (is_called name) cache s is.samples (sym e)
