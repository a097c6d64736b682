-- What a file with its header's numbers says.
use Rattle.format.specs.Job.{FileJob}
use Rattle.format.specs.File.{decode}
use Rattle.file_blocks.specs.declared.job_file.JobFile.{JobFile}

-- The job that the file's bytes say.
abbrev pub said : JobFile → FileJob
said file = decode file.bytes.now
